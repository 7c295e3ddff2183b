-- Pids are pairs of numbers, so their equality and order are those of the numbers, and a list of
-- them that rises can be searched by halves.
use Rattle.std.proofs.Common.{◌≡◌, ℕ, ◌-◌, ◌<◌, ◌≤◌, zero, suc, nat_lt, Bool, true, false, ◌==◌}
use Rattle.std.proofs.Common.{◌&&◌, ◌⊎◌, inl, inr, List, [], ◌∷◌, ◌++◌, length, get_or, Some}
use Rattle.std.proofs.Common.{IfNone, IsTrue, Result, Ok, Err, slice_get, refl, sym, ◌∙◌, ap, subst}
use Rattle.std.proofs.Common.{arith}
use Rattle.std.specs.List.{AllByRecursion}
use Rattle.std.specs.List.Sorted.{IsBinarySearchResult}
use Rattle.std.specs.Result.{result_ok}
use Rattle.std.proofs.lemmas.Bool.{cases_lt, eqb-true, eq-eqb}
use Rattle.std.specs.declared.cmp.Ordering.{Ordering}
use Rattle.std.specs.declared.cmp.Ordering.TheVariants.{Less, Equal, Greater}
use Rattle.std.specs.Ordering.{nat_cmp, ordering_then, ordering_index, is_eq, is_lt}
use Rattle.std.proofs.lemmas.Bool.Decides.{nat_tests}
use Rattle.std.proofs.lemmas.Option.{same_Some}
use Rattle.st_core.specs.declared.types.Pid.{Pid}
use Rattle.st_core.specs.Pid.{pid_eq, pid_cmp, IsBelow, IsRising}

and_left : (x y : Bool) → (x && y) ≡ true → x ≡ true
and_left true y h = refl
and_left false y h = h

and_right : (x y : Bool) → (x && y) ≡ true → y ≡ true
and_right true y h = h
and_right false y h = cc

pub pid_eq-true : (p q : Pid) → pid_eq p q ≡ true → p ≡ q
pid_eq-true p q h =
    let nodes = eqb-true p.node q.node (and_left _ _ h) in
    let numbers = eqb-true p.number q.number (and_right _ _ h) in
    λ i. record { node = nodes i; number = numbers i }

pub pid_eq-same : (p : Pid) → pid_eq p p ≡ true
pid_eq-same p = rw (eq-eqb p.node p.node refl, eq-eqb p.number p.number refl) refl

pub eqb-swap : (m n : ℕ) → (m == n) ≡ (n == m)
eqb-swap m n = grind (arith, nat_tests)

pub pid_eq-swap : (p q : Pid) → pid_eq p q ≡ pid_eq q p
pid_eq-swap p q = rw (eqb-swap p.node q.node, eqb-swap p.number q.number) refl

-- THE ORDER, AS NUMBERS

-- p comes before q
pub record Before (p q : Pid) : Type 0 where
  pub nodes : p.node ≤ q.node
  pub numbers : p.node ≡ q.node → p.number < q.number

then_less : (a b : Ordering) → ordering_then a b ≡ Less → (a ≡ Less) ⊎ ((a ≡ Equal) × (b ≡ Less))
then_less Less b h = inl refl
then_less Equal b h = inr (refl, h)
then_less Greater b h = absurd (cc)

nat_cmp-Less : (m n : ℕ) → nat_cmp m n ≡ Less → m < n
nat_cmp-Less m n h = grind (arith, nat_tests)

pub nat_cmp-Equal : (m n : ℕ) → nat_cmp m n ≡ Equal → m ≡ n
nat_cmp-Equal m n h = grind (arith, nat_tests)

pub nat_cmp-below : (m n : ℕ) → m < n → nat_cmp m n ≡ Less
nat_cmp-below m n h = grind (arith, nat_tests)

pub nat_cmp-same : (m n : ℕ) → m ≡ n → nat_cmp m n ≡ Equal
nat_cmp-same m n h = grind (arith, nat_tests)

pub IsBelow-numbers : (p q : Pid) → IsBelow p q → Before p q
IsBelow-numbers p q h = elim (then_less _ _ h) [
  | inl less ↦
      let lt = nat_cmp-Less p.node q.node less in
      record { nodes = omega arith; numbers = λ same. absurd (omega arith) }
  | inr both ↦
      let eq = nat_cmp-Equal p.node q.node both.0 in
      let lt = nat_cmp-Less p.number q.number both.1 in
      record { nodes = omega arith; numbers = λ same. lt }
]

pub below_or_same : (m n : ℕ) → m ≤ n → (m < n) ⊎ (m ≡ n)
below_or_same m n h = elim (nat_lt m n) as (λ b. nat_lt m n ≡ b → (m < n) ⊎ (m ≡ n)) [
  | true ↦ λ e. inl (grind (arith, nat_tests))
  | false ↦ λ e. inr (grind (arith, nat_tests))
] refl

pub IsBelow-from_numbers : (p q : Pid) → Before p q → IsBelow p q
IsBelow-from_numbers p q h = elim (below_or_same p.node q.node h.nodes) [
  | inl lt ↦ rw (nat_cmp-below p.node q.node lt) refl
  | inr eq ↦ rw (nat_cmp-same p.node q.node eq, nat_cmp-below p.number q.number (h.numbers eq)) refl
]

pub IsBelow-trans : (p q r : Pid) → IsBelow p q → IsBelow q r → IsBelow p r
IsBelow-trans p q r h k =
    let a = IsBelow-numbers p q h in
    let b = IsBelow-numbers q r k in
    let ab = a.nodes in
    let bc = b.nodes in
    IsBelow-from_numbers p r (record {
      nodes = omega arith;
      numbers = λ same.
          let one : p.node ≡ q.node = omega arith in
          let two : q.node ≡ r.node = omega arith in
          let lt = a.numbers one in
          let gt = b.numbers two in
          omega arith;
    })

pub IsBelow-apart : (p q : Pid) → IsBelow p q → pid_eq p q ≡ false
IsBelow-apart p q h = elim (pid_eq p q) as (λ b. pid_eq p q ≡ b → b ≡ false) [
  | true ↦ λ e.
      let same = pid_eq-true p q e in
      let a = IsBelow-numbers p q h in
      let lt = a.numbers (ap (λ (x : Pid). x.node) same) in
      let eq : p.number ≡ q.number = ap (λ (x : Pid). x.number) same in
      absurd (omega arith)
  | false ↦ λ e. refl
] refl

-- LISTS THAT RISE

-- if each pid of a list is above q, so is the pid at each place
at_above : (ps : List Pid) (q l : Pid) (i : ℕ) → AllByRecursion (IsBelow q) ps
    → slice_get ps i ≡ Some l → IsBelow q l
at_above [] q l i all at = absurd (cc)
at_above (p ∷ ps) q l zero all at = subst (IsBelow q) (same_Some p l at) all.0
at_above (p ∷ ps) q l (suc i) all at = at_above ps q l i all.1 at

-- if the last of rising pids is below p, each of them is
pub below_last : (ps : List Pid) (k : ℕ) (l p : Pid) → length ps ≡ suc k → IsRising ps
    → slice_get ps k ≡ Some l
    → IsBelow l p → AllByRecursion (λ r. IsBelow r p) ps
below_last [] k l p len rising at h = tt
below_last (q ∷ []) zero l p len rising at h =
    (subst (λ r. IsBelow r p) (sym (same_Some q l at)) h, tt)
below_last (q ∷ r ∷ ps) (suc k) l p len rising at h = (
  IsBelow-trans q l p (at_above (r ∷ ps) q l k rising.0 at) h,
  below_last (r ∷ ps) k l p (omega arith) rising.1 at h,
)
below_last ps k l p len rising at h = absurd (omega arith)

pub all_at : {A : Type 0} (P : A → Type 0) (xs : List A) (i : ℕ) (x : A) → AllByRecursion P xs
    → slice_get xs i ≡ Some x
    → P x
all_at P [] i x all at = absurd (cc)
all_at P (y ∷ ys) zero x all at = subst P (same_Some y x at) all.0
all_at P (y ∷ ys) (suc i) x all at = all_at P ys i x all.1 at

pub all_push : {A : Type 0} (P : A → Type 0) (xs : List A) (x : A) → AllByRecursion P xs → P x
    → AllByRecursion P (xs ++ x ∷ [])
all_push P [] x all here = (here, tt)
all_push P (y ∷ ys) x all here = (all.0, all_push P ys x all.1 here)

pub IsRising-push : (ps : List Pid) (p : Pid) → IsRising ps → AllByRecursion (λ r. IsBelow r p) ps
    → IsRising (ps ++ p ∷ [])
IsRising-push [] p rising all = (tt, tt)
IsRising-push (q ∷ ps) p rising all =
    (all_push (IsBelow q) ps p rising.0 all.0, IsRising-push ps p rising.1 all.1)

-- THE SEARCH

index_most : (o : Ordering) → ordering_index o ≤ 2
index_most Less = omega arith
index_most Equal = omega arith
index_most Greater = omega arith

then_equal : (a b : Ordering) → ordering_then a b ≡ Equal → (a ≡ Equal) × (b ≡ Equal)
then_equal Less b h = absurd (cc)
then_equal Equal b h = (refl, h)
then_equal Greater b h = absurd (cc)

pub pid_cmp-Equal : (p q : Pid) → pid_cmp p q ≡ Equal → p ≡ q
pid_cmp-Equal p q h =
    let parts = then_equal _ _ h in
    let nodes = nat_cmp-Equal p.node q.node parts.0 in
    let numbers = nat_cmp-Equal p.number q.number parts.1 in
    λ i. record { node = nodes i; number = numbers i }

pub pid_cmp-same : (p : Pid) → pid_cmp p p ≡ Equal
pid_cmp-same p = rw (nat_cmp-same p.node p.node refl, nat_cmp-same p.number p.number refl) refl

index_rises : (p q x : Pid) (o : Ordering) → IsBelow p q → pid_cmp q x ≡ o
    → ordering_index (pid_cmp p x) ≤ ordering_index o
index_rises p q x Less h e = let less : pid_cmp p x ≡ Less = IsBelow-trans p q x h e in
    rw less (omega arith)
index_rises p q x Equal h e =
    let less : pid_cmp p x ≡ Less = subst (IsBelow p) (pid_cmp-Equal q x e) h in
    rw less (omega arith)
index_rises p q x Greater h e = index_most (pid_cmp p x)

above_at : (ps : List Pid) (q : Pid) (j : ℕ) (d : Pid) → AllByRecursion (IsBelow q) ps
    → j < length ps
    → IsBelow q (get_or ps j d)
above_at [] q j d all within = absurd (omega arith)
above_at (p ∷ ps) q zero d all within = all.0
above_at (p ∷ ps) q (suc j) d all within = above_at ps q j d all.1 (omega arith)

pub comparison_rises : (ps : List Pid) (x : Pid) (i j : ℕ) (d : Pid) → IsRising ps → i ≤ j
    → j < length ps
    → ordering_index (pid_cmp (get_or ps i d) x) ≤ ordering_index (pid_cmp (get_or ps j d) x)
comparison_rises (p ∷ ps) x zero zero d rising le within = omega arith
comparison_rises (p ∷ ps) x zero (suc j) d rising le within =
    index_rises p (get_or ps j d) x _ (above_at ps p j d rising.0 (omega arith)) refl
comparison_rises (p ∷ ps) x (suc i) (suc j) d rising le within =
    comparison_rises ps x i j d rising.1 (omega arith) (omega arith)
comparison_rises ps x i j d rising le within = absurd (omega arith)

not_equal_apart : (p q : Pid) → ¬ (pid_cmp p q ≡ Equal) → pid_eq p q ≡ false
not_equal_apart p q h = elim (pid_eq p q) as (λ b. pid_eq p q ≡ b → b ≡ false) [
  | true ↦ λ e. absurd (h (subst (λ r. pid_cmp p r ≡ Equal) (pid_eq-true p q e) (pid_cmp-same p)))
  | false ↦ λ e. refl
] refl

-- if no pid of a list compares equal to x, none is x
pub apart_from_unequal : (ps : List Pid) (x : Pid)
    → ((k : ℕ) (d : Pid) → k < length ps → ¬ (pid_cmp (get_or ps k d) x ≡ Equal))
    → AllByRecursion (λ p. pid_eq p x ≡ false) ps
apart_from_unequal [] x h = tt
apart_from_unequal (p ∷ ps) x h = (
  not_equal_apart p x (h 0 p (omega arith)),
  apart_from_unequal ps x (λ k d within. h (suc k) d (omega arith)),
)

-- if a binary search doesn't find x among rising pids, none of them is x
pub missing_from_search : (ps : List Pid) (x : Pid) (r : Result ℕ ℕ) → IsRising ps
    → IsBinarySearchResult (λ y. pid_cmp y x) ps r
    → IfNone (result_ok r) (AllByRecursion (λ p. pid_eq p x ≡ false) ps)
missing_from_search ps x (Ok i) rising found = tt
missing_from_search ps x (Err i) rising found =
    let parts = found (λ i j d le within. comparison_rises ps x i j d rising le within) in
    apart_from_unequal ps x (λ k d within e. elim (cases_lt k i) [
      | inl below ↦ let less : pid_cmp (get_or ps k d) x ≡ Less = parts.0 k d (omega arith) below in
          absurd (cc)
      | inr above ↦ let greater : pid_cmp (get_or ps k d) x ≡ Greater = parts.1 k d above within in
          absurd (cc)
    ])

pub is_lt-true : (o : Ordering) → is_lt o ≡ true → o ≡ Less
is_lt-true Less h = refl
is_lt-true o h = absurd (cc)

pub is_eq-Equal : (o : Ordering) → is_eq o ≡ true → o ≡ Equal
is_eq-Equal Equal h = refl
is_eq-Equal o h = absurd (cc)

last_place : (ps : List Pid) (l : Pid) → slice_get ps (length ps - 1) ≡ Some l
    → (k : ℕ) × (length ps ≡ suc k) × (slice_get ps k ≡ Some l)
last_place [] l h = absurd (cc)
last_place (p ∷ ps) l h =
    (length ps, refl, subst (λ k. slice_get (p ∷ ps) k ≡ Some l) (omega arith) h)

-- p is above all of rising pids exactly if it is above the last
pub below_decides : (ps : List Pid) (l p : Pid) (b : Bool) → IsRising ps
    → slice_get ps (length ps - 1) ≡ Some l
    → b ≡ is_lt (pid_cmp l p)
    → (IsTrue b → AllByRecursion (λ r. IsBelow r p) ps)
    × (AllByRecursion (λ r. IsBelow r p) ps → IsTrue b)
below_decides ps l p b rising at e =
    let last = last_place ps l at in (
      (λ yes. below_last ps last.0 l p last.1 rising last.2
          (is_lt-true (pid_cmp l p) (sym e ∙ yes))),
      (λ all. e ∙ ap is_lt (all_at (λ r. IsBelow r p) ps last.0 l all last.2)),
    )

pub not_below_itself : (p : Pid) → IsBelow p p → ⊥
not_below_itself p below = let apart = IsBelow-apart p p below in let same = pid_eq-same p in cc
