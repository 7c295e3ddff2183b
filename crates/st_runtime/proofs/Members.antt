-- Lemmas on membership in a list, by recursion, on lists of entries in order, and on processes
-- whose pids rise.
use Rattle.std.proofs.Common.{◌≡◌, ℕ, zero, suc, ◌<◌, List, [], ◌∷◌, length, get_or, Bool, true}
use Rattle.std.proofs.Common.{false, cond, map, refl, sym, ap, ◌∙◌, subst, arith, inl, inr, ⊎_elim}
use Rattle.std.proofs.Common.{◌⊎◌, ◌||◌, ◌++◌, take, set, ◌≤◌}
use Rattle.std.specs.List.{AllByRecursion}
use Rattle.std.specs.Prelude.{filter, slice_get, All, AllPairs, Contains, Some}
use Rattle.std.proofs.lemmas.Option.{same_Some}
use Rattle.st_core.specs.Step.{actor}
use Rattle.st_core.specs.Streams.{is_among}
use Rattle.st_core.specs.declared.types.Pid.{Pid}
use Rattle.st_core.specs.Pid.{pid_eq, IsBelow, IsRising}
use Rattle.st_core.proofs.ForCallers.{IsBelow-trans, not_below_itself, pid_eq-true}
use Rattle.st_log.specs.declared.entry.Entry.{Entry}
use Rattle.st_runtime.specs.Logs.{RanksRise}
use Rattle.st_runtime.specs.Joined.{IsBefore}
use Rattle.st_runtime.specs.Pcb.{Control}
use Rattle.st_runtime.specs.Pieces.{pids_in}

abbrev pub In : {X : Type 0} → X → List X → Type 0
In x [] = ⊥
In x (y ∷ ys) = (x ≡ y) ⊎ In x ys

pub In-Contains : {X : Type 0} (x : X) (xs : List X) → In x xs → Contains xs x
In-Contains x [] h = absurd h
In-Contains x (y ∷ ys) h =
    ⊎_elim (λ same. (0, omega arith, sym same)) (λ later. let r =
    In-Contains x ys later in let place : r.0 < length ys = r.1 in (suc r.0, omega arith, r.2)) h

contains_at : {X : Type 0} (x y : X) (ys : List X) (k : ℕ) → k < length (y ∷ ys)
    → get_or (y ∷ ys) k x ≡ x
    → (x ≡ y) ⊎ Contains ys x
contains_at x y ys zero l e = inl (sym e)
contains_at x y ys (suc k) l e = inr (k, omega arith, e)

pub Contains-In : {X : Type 0} (x : X) (xs : List X) → Contains xs x → In x xs
Contains-In x [] c = absurd (let l = c.1 in omega arith)
Contains-In x (y ∷ ys) c =
    ⊎_elim (λ e. inl e) (λ r. inr (Contains-In x ys r)) (contains_at x y ys c.0 c.1 c.2)

-- what holds of each item holds of each element
pub All-In : {X : Type 0} (P : X → Type 0) (xs : List X) (x : X) → All P xs → In x xs → P x
All-In P xs x h i = let c = In-Contains x xs i in subst P c.2 (h c.0 x c.1)

pub In-All : {X : Type 0} (P : X → Type 0) (xs : List X) → ((x : X) → In x xs → P x) → All P xs
In-All P [] each k d l = absurd (omega arith)
In-All P (x ∷ xs) each zero d l = each x (inl refl)
In-All P (x ∷ xs) each (suc k) d l = In-All P xs (λ y i. each y (inr i)) k d (omega arith)

kept_in : {X : Type 0} (test : X → Bool) (x y : X) (zs : List X) (b : Bool) → test y ≡ b
    → In x (cond b (y ∷ zs) zs)
    → ((x ≡ y) × (test x ≡ true)) ⊎ In x zs
kept_in test x y zs true is h = ⊎_elim (λ e. inl (e, ap test e ∙ is)) (λ i. inr i) h
kept_in test x y zs false is h = inr h

pub In-filter : {X : Type 0} (test : X → Bool) (x : X) (xs : List X) → In x (filter test xs)
    → In x xs × (test x ≡ true)
In-filter test x [] h = absurd h
In-filter test x (y ∷ ys) h =
    ⊎_elim (λ e. (inl e.0, e.1)) (λ i. let r = In-filter test x ys i in (inr r.0, r.1))
    (kept_in test x y (filter test ys) (test y) refl h)

in_kept : {X : Type 0} (x y : X) (zs : List X) (b : Bool) → ((x ≡ y) × (b ≡ true)) ⊎ In x zs
    → In x (cond b (y ∷ zs) zs)
in_kept x y zs true h = ⊎_elim (λ e. inl e.0) (λ i. inr i) h
in_kept x y zs false h = ⊎_elim (λ e. let w : false ≡ true = e.1 in cc) (λ i. i) h

pub In-to_filter : {X : Type 0} (test : X → Bool) (x : X) (xs : List X) → In x xs → test x ≡ true
    → In x (filter test xs)
In-to_filter test x [] h is = absurd h
In-to_filter test x (y ∷ ys) h is =
    in_kept x y (filter test ys) (test y) (⊎_elim (λ e. inl (e, ap test (sym e) ∙ is))
    (λ i. inr (In-to_filter test x ys i is)) h)

In-append : {X : Type 0} (x : X) (xs ys : List X) → In x (xs ++ ys) → In x xs ⊎ In x ys
In-append x [] ys i = inr i
In-append x (y ∷ xs) ys i =
    ⊎_elim (λ e. inl (inl e)) (λ l. ⊎_elim (λ a. inl (inr a)) (λ b. inr b) (In-append x xs ys l)) i

-- ORDER

abbrev pub IsOrdered : List Entry → Type 0
IsOrdered [] = Unit {0}
IsOrdered (e ∷ es) = ((d : Entry) → In d es → IsBefore e d) × IsOrdered es

pairs_head : (e : Entry) (es : List Entry) → AllPairs IsBefore (e ∷ es) → (d : Entry) → In d es
    → IsBefore e d
pairs_head e es h d i =
    let c = In-Contains d es i in
    subst (IsBefore e) c.2 (h 0 (suc c.0) d (omega arith)
    (let l : c.0 < length es = c.1 in omega arith))

pub IsOrdered-from_pairs : (es : List Entry) → AllPairs IsBefore es → IsOrdered es
IsOrdered-from_pairs [] h = tt
IsOrdered-from_pairs (e ∷ es) h = (
  pairs_head e es h,
  IsOrdered-from_pairs es
      (λ i j d a b. h (suc i) (suc j) d (omega arith) (omega arith)),
)

IsOrdered-kept : (test : Entry → Bool) (e : Entry) (es zs : List Entry) (b : Bool)
    → ((d : Entry) → In d es → IsBefore e d) → ((d : Entry) → In d zs → In d es) → IsOrdered zs
    → IsOrdered (cond b (e ∷ zs) zs)
IsOrdered-kept test e es zs true below part_of rest = (λ d i. below d (part_of d i), rest)
IsOrdered-kept test e es zs false below part_of rest = rest

pub IsOrdered-filter : (test : Entry → Bool) (es : List Entry) → IsOrdered es
    → IsOrdered (filter test es)
IsOrdered-filter test [] h = tt
IsOrdered-filter test (e ∷ es) h =
    IsOrdered-kept test e es (filter test es) (test e) h.0 (λ d i. (In-filter test d es i).0)
    (IsOrdered-filter test es h.1)

pub IsOrdered-append : (xs ys : List Entry) → IsOrdered xs → IsOrdered ys
    → ((d e : Entry) → In d xs → In e ys → IsBefore d e) → IsOrdered (xs ++ ys)
IsOrdered-append [] ys a b cross = b
IsOrdered-append (x ∷ xs) ys a b cross = (
  λ d i. ⊎_elim (λ l. a.0 d l) (λ r. cross x d (inl refl) r) (In-append d xs ys i),
  IsOrdered-append xs ys a.1 b (λ d e i j. cross d e (inr i) j),
)

pub pairs_from_ordered : (es : List Entry) → IsOrdered es → AllPairs IsBefore es
pairs_from_ordered [] h i j d a b = absurd (omega arith)
pairs_from_ordered (e ∷ es) h i zero d a b = absurd (omega arith)
pairs_from_ordered (e ∷ es) h zero (suc j) d a b = In-All (IsBefore e) es h.0 j d (omega arith)
pairs_from_ordered (e ∷ es) h (suc i) (suc j) d a b =
    pairs_from_ordered es h.1 i j d (omega arith) (omega arith)

Rises-above : (low : ℕ) (es : List Entry) (d : Entry) → RanksRise low es → In d es → low < d.rank
Rises-above low [] d r i = absurd i
Rises-above low (e ∷ es) d r i =
    ⊎_elim (λ same. let P : Entry → Type 0 = λ x. low < x.rank in subst P (sym same) r.0)
    (λ later. let h =
    Rises-above e.rank es d r.1 later in let g = r.0 in omega arith) i

pub IsOrdered-from_rises : (low : ℕ) (es : List Entry) → RanksRise low es → IsOrdered es
IsOrdered-from_rises low [] r = tt
IsOrdered-from_rises low (e ∷ es) r =
    (λ d i. inl (Rises-above e.rank es d r.1 i), IsOrdered-from_rises e.rank es r.1)

before_irreflexive : (e : Entry) → IsBefore e e → ⊥
before_irreflexive e h =
    ⊎_elim (λ a. let x = a in omega arith) (λ b. not_below_itself (actor e.act) b.1) h

before_asymmetric : (d e : Entry) → IsBefore d e → IsBefore e d → ⊥
before_asymmetric d e h k =
    ⊎_elim
    (λ a. ⊎_elim (λ b. let x = a in let y = b in omega arith)
    (λ b. let x = a in let y = b.0 in omega arith) k)
    (λ a. ⊎_elim (λ b. let x = a.0 in let y = b in omega arith)
    (λ b. not_below_itself (actor d.act)
    (IsBelow-trans (actor d.act) (actor e.act) (actor d.act) a.1 b.1)) k)
    h

head_same : (x y : Entry) (xs ys : List Entry) → IsOrdered (x ∷ xs) → IsOrdered (y ∷ ys)
    → In x (y ∷ ys)
    → In y (x ∷ xs) → x ≡ y
head_same x y xs ys a b i j =
    ⊎_elim (λ same. same) (λ later. ⊎_elim (λ same. sym same)
    (λ later'. absurd (before_asymmetric x y (a.0 y later') (b.0 x later))) j) i

tail_in : (x y : Entry) (xs ys : List Entry) (e : Entry) → x ≡ y → IsOrdered (x ∷ xs) → In e xs
    → In e (y ∷ ys)
    → In e ys
tail_in x y xs ys e same a i j =
    ⊎_elim
    (λ first. absurd (before_irreflexive x (subst (IsBefore x) (first ∙ sym same) (a.0 e i))))
    (λ later. later) j

-- two lists in order with the same elements are equal
pub same_list : (xs ys : List Entry) → IsOrdered xs → IsOrdered ys
    → ((e : Entry) → In e xs → In e ys)
    → ((e : Entry) → In e ys → In e xs) → xs ≡ ys
same_list [] [] a b f g = refl
same_list [] (y ∷ ys) a b f g = absurd (g y (inl refl))
same_list (x ∷ xs) [] a b f g = absurd (f x (inl refl))
same_list (x ∷ xs) (y ∷ ys) a b f g =
    let same : x ≡ y = head_same x y xs ys a b (f x (inl refl)) (g y (inl refl)) in
    let rest : xs ≡ ys =
    same_list xs ys a.1 b.1
    (λ e i. tail_in x y xs ys e same a i (f e (inr i)))
    (λ e i. tail_in y x ys xs e (sym same) b i (g e (inr i))) in
    λ i. same i ∷ rest i

-- an item that is got is at its place
pub got_at : {X : Type 0} (xs : List X) (i : ℕ) (x d : X) → slice_get xs i ≡ Some x
    → (i < length xs) × (get_or xs i d ≡ x)
got_at [] i x d at = absurd (cc)
got_at (y ∷ ys) zero x d at = (omega arith, same_Some y x at)
got_at (y ∷ ys) (suc i) x d at = let rest = got_at ys i x d at in (omega (arith, rest.0), rest.1)

-- to take at least all items takes the whole list
pub take_past : {X : Type 0} (n : ℕ) (xs : List X) → length xs ≤ n → take n xs ≡ xs
take_past zero [] h = refl
take_past zero (x ∷ xs) h = absurd (omega arith)
take_past (suc n) [] h = refl
take_past (suc n) (x ∷ xs) h = ap (λ ys. x ∷ ys) (take_past n xs (omega arith))

pub All-past : {X : Type 0} (P : X → Type 0) (n : ℕ) (xs : List X) → length xs ≤ n
    → All P (take n xs) → All P xs
All-past P n xs h all = subst (All P) (take_past n xs h) all

-- a write that f doesn't see leaves the mapped list as it was
pub map-set_same : {X Y : Type 0} (f : X → Y) (xs : List X) (i : ℕ) (x z : X) → z ≡ get_or xs i z
    → f x ≡ f z
    → map f (set xs i x) ≡ map f xs
map-set_same f [] i x z at h = refl
map-set_same f (y ∷ ys) zero x z at h = ap (λ n. n ∷ map f ys) (h ∙ ap f at)
map-set_same f (y ∷ ys) (suc i) x z at h = ap (λ r. f y ∷ r) (map-set_same f ys i x z at h)

-- PIDS

-- pids rise
abbrev pub Ascends : List Control → Type 0
Ascends [] = Unit {0}
Ascends (p ∷ ps) = ((q : Control) → In q ps → IsBelow p.process.pid q.process.pid) × Ascends ps

below_each : (p : Pid) (ps : List Control) → AllByRecursion (IsBelow p) (pids_in ps) → (q : Control)
    → In q ps
    → IsBelow p q.process.pid
below_each p [] all q i = absurd i
below_each p (x ∷ xs) all q i =
    ⊎_elim (λ same. subst (λ (y : Control). IsBelow p y.process.pid) (sym same) all.0)
    (λ later. below_each p xs all.1 q later) i

pub Ascends-from_rising : (ps : List Control) → IsRising (pids_in ps) → Ascends ps
Ascends-from_rising [] up = tt
Ascends-from_rising (p ∷ ps) up = (below_each p.process.pid ps up.0, Ascends-from_rising ps up.1)

-- a pid that is among the pids is that of a process
pub among_in : (q : Pid) (ps : List Control) → is_among (pids_in ps) q ≡ true
    → (y : Control) × (In y ps × (y.process.pid ≡ q))
among_in q [] h = absurd (cc)
among_in q (p ∷ ps) h =
    elim (pid_eq p.process.pid q) as (λ b. pid_eq p.process.pid q ≡ b
    → (b || is_among (pids_in ps) q) ≡ true
    → (y : Control) × (In y (p ∷ ps) × (y.process.pid ≡ q))) [
      | true ↦ λ is h. (p, (inl refl, pid_eq-true p.process.pid q is))
      | false ↦ λ is h. let r = among_in q ps h in (r.0, (inr r.1.0, r.1.1))
    ] refl h
