-- A pid is seated by what a walk over the seats and over its log finds: what is past is told apart,
-- and what is left decides. A pid without a log and without a seat is seated.
use Rattle.std.proofs.Common.{◌≡◌, ◌||◌, ℕ, ◌+◌, ◌-◌, ◌≤◌, nat_eq, ◌<◌, Bool, true, false, cond}
use Rattle.std.proofs.Common.{List, [], ◌∷◌, length, map, take, drop, get_or, Option, Some, None}
use Rattle.std.proofs.Common.{IsTrue, ◌↔◌, refl, sym, ◌∙◌, ap, subst, arith, inl, inr, ⊎_elim, ◌⊎◌}
use Rattle.std.specs.Prelude.{filter, IfSome, MatchOption}
use Rattle.std.specs.declared.cmp.Ordering.{Ordering}
use Rattle.std.specs.declared.cmp.Ordering.TheVariants.{Less, Equal, Greater}
use Rattle.std.specs.Ordering.{is_lt}
use Rattle.std.proofs.lemmas.List.{drop_all, length-drop}
use Rattle.std.proofs.lemmas.Bool.Decides.{nat_tests}
use Rattle.std.proofs.lemmas.List.Elements.{All-more}
use Rattle.st_core.specs.declared.types.Pid.{Pid}
use Rattle.st_core.specs.declared.types.Act.{Act}
use Rattle.st_core.specs.declared.types.Reply.{Reply}
use Rattle.st_core.specs.Pid.{pid_cmp, pid_eq, IsBelow, IsRising}
use Rattle.st_core.specs.Streams.{is_among}
use Rattle.st_core.proofs.ForCallers.{pid_eq-true, pid_eq-same, IsBelow-apart, IsBelow-trans}
use Rattle.st_core.proofs.ForCallers.{not_below_itself}
use Rattle.st_log.specs.declared.entry.Entry.{Entry}
use Rattle.st_runtime.specs.Joining.{IsLeastUnseated, lesser}
use Rattle.st_runtime.specs.Pcb.{Control}
use Rattle.st_runtime.specs.Pieces.{Parts, pids_in, calls_of, seat_of, seats_told, IsSeated}
use Rattle.st_runtime.specs.Pieces.{IsFirstUnseated}
use Rattle.st_runtime.specs.Seat.{Calls}
use Rattle.st_runtime.proofs.Members.{In, All-In, In-All}
use Rattle.st_runtime.proofs.Members.{Ascends, Ascends-from_rising}
use Rattle.st_runtime.proofs.StepLemmas.{apart_eq}

-- ---- calls

-- at the log's end the calls are all told if none is left
pub calls_end : (mine : List (Act × Reply)) (k : ℕ) (p : Pid) (log : List Entry) (i : ℕ)
    → k ≤ length mine → length log ≤ i
    → (mine ≡ calls_of p log) ↔ (drop k mine ≡ calls_of p (drop i log))
    → IsTrue (nat_eq k (length mine)) ↔ (mine ≡ calls_of p log)
calls_end mine k p log i low past left =
    let none : calls_of p (drop i log) ≡ [] = ap (calls_of p) (drop_all i log past) in (
      λ even.
          let same : k ≡ length mine = eqb-true k (length mine) even in
          left.1 (drop_all k mine (omega arith) ∙ sym none),
      λ told.
          let rest : length (drop k mine) ≡ 0 = ap length (left.0 told ∙ none) in
          let long : length (drop k mine) ≡ length mine - k = length-drop k mine in
          let same : k ≡ length mine = omega arith in
          eqb-same k (length mine) same,
    )
  where
    eqb-same : (m n : ℕ) → m ≡ n → nat_eq m n ≡ true
    eqb-same m n same = grind (arith, nat_tests)

    eqb-true : (m n : ℕ) → nat_eq m n ≡ true → m ≡ n
    eqb-true m n same = grind (arith, nat_tests)

-- ---- logs

-- whoever has no log is told no seat
pub none_told : (xs : List Control) (p : Pid) → is_among (pids_in xs) p ≡ false
    → seats_told xs p ≡ []
none_told [] p none = refl
none_told (x ∷ xs) p none =
    elim (pid_eq x.process.pid p) as (λ b. pid_eq x.process.pid p ≡ b
    → (b || is_among (pids_in xs) p) ≡ false
    → map seat_of (cond b (x ∷ filter (λ (y : Control). pid_eq y.process.pid p) xs)
    (filter (λ (y : Control). pid_eq y.process.pid p) xs)) ≡ []) [
      | true ↦ λ is no. absurd (cc)
      | false ↦ λ is no. none_told xs p no
    ] refl none

above_none : (xs : List Control) (p : Pid) → ((q : Control) → In q xs → IsBelow p q.process.pid)
    → filter (λ (y : Control). pid_eq y.process.pid p) xs ≡ []
above_none [] p above = refl
above_none (x ∷ xs) p above =
    let away : pid_eq x.process.pid p ≡ false =
    apart_eq x.process.pid p (λ same. not_below x.process.pid p same (above x (inl refl))) in
    ap (λ b. cond b (x ∷ filter (λ (y : Control). pid_eq y.process.pid p) xs)
    (filter (λ (y : Control). pid_eq y.process.pid p) xs)) away
    ∙ above_none xs p (λ q i. above q (inr i))
  where
    not_below : (q p : Pid) → q ≡ p → IsBelow p q → ⊥
    not_below q p same below =
        let apart = IsBelow-apart p q below in
        let alike : pid_eq p q ≡ true = ap (pid_eq p) same ∙ pid_eq-same p in
        cc

only_log : (xs : List Control) (x : Control) (p : Pid) → Ascends xs → In x xs → x.process.pid ≡ p
    → filter (λ (y : Control). pid_eq y.process.pid p) xs ≡ x ∷ []
only_log [] x p up i pid = absurd i
only_log (z ∷ zs) x p up i pid =
    let test : Control → Bool = λ (y : Control). pid_eq y.process.pid p in
    ⊎_elim
    (λ first.
    let same : z.process.pid ≡ p = ap (λ (y : Control). y.process.pid) (sym first) ∙ pid in
    let here : pid_eq z.process.pid p ≡ true =
    ap (pid_eq z.process.pid) (sym same) ∙ pid_eq-same z.process.pid in
    let none : filter test zs ≡ [] =
    above_none zs p (λ q j. subst (λ w. IsBelow w q.process.pid) same (up.0 q j)) in
    ap (λ b. cond b (z ∷ filter test zs) (filter test zs)) here ∙ (λ j. sym first j ∷ none j))
    (λ later.
    let away : pid_eq z.process.pid p ≡ false =
    ap (pid_eq z.process.pid) (sym pid) ∙ IsBelow-apart z.process.pid x.process.pid
    (up.0 x later) in
    ap (λ b. cond b (z ∷ filter test zs) (filter test zs)) away ∙ only_log zs x p up.1 later pid) i

-- whoever has a log is told its seat
pub one_told : (xs : List Control) (x : Control) (p : Pid) → IsRising (pids_in xs) → In x xs
    → x.process.pid ≡ p
    → seats_told xs p ≡ record { pid = p; mine = calls_of p x.log } ∷ []
one_told xs x p rising i pid =
    ap (map seat_of) (only_log xs x p (Ascends-from_rising xs rising) i pid)
    ∙ ap (λ q. record { pid = q; mine = calls_of q x.log } ∷ []) pid

-- ---- the least

less_is : (p q : Pid) → is_lt (pid_cmp p q) ≡ true → IsBelow p q
less_is p q is = by (pid_cmp p q) is
  where
    by : (o : Ordering) → is_lt o ≡ true → o ≡ Less
    by Less h = refl
    by Equal h = absurd (cc)
    by Greater h = absurd (cc)

-- a pid is below the lesser of two only if it is below both
lesser_below : (o : Option Pid) (p q : Pid) → IfSome (lesser o p) (IsBelow q) → IfSome o (IsBelow q)
lesser_below None p q below = tt
lesser_below (Some r) p q below =
    elim (is_lt (pid_cmp p r)) as (λ b. is_lt (pid_cmp p r) ≡ b
    → IfSome (cond b (Some p) (Some r)) (IsBelow q) → IsBelow q r) [
      | true ↦ λ is h. IsBelow-trans q p r h (less_is p r is)
      | false ↦ λ is h. h
    ] refl below

-- it is never below the lesser of itself and another
lesser_itself : (o : Option Pid) (p : Pid) → IfSome (lesser o p) (IsBelow p) → ⊥
lesser_itself None p below = not_below_itself p below
lesser_itself (Some r) p below =
    elim (is_lt (pid_cmp p r)) as (λ b. is_lt (pid_cmp p r) ≡ b
    → IfSome (cond b (Some p) (Some r)) (IsBelow p) → ⊥) [
      | true ↦ λ is h. not_below_itself p h
      | false ↦ λ is h. let less : is_lt (pid_cmp p r) ≡ true = ap is_lt h in cc
    ] refl below

lesser_of : (P : Pid → Type 0) (o : Option Pid) (p : Pid) → P p → IfSome o P → IfSome (lesser o p) P
lesser_of P None p here there = here
lesser_of P (Some r) p here there =
    elim (is_lt (pid_cmp p r)) as (λ b. IfSome (cond b (Some p) (Some r)) P) [
      | true ↦ here
      | false ↦
          there
    ]

module _ {X : Type 0} (pid_of : X → Pid) (pieces : Parts) where
  -- a pid that isn't seated, wherever it comes from
  pub least_less : (xs : List X) (o : Option Pid) (p : Pid) → (IsSeated pieces p → ⊥)
      → IsLeastUnseated pid_of pieces xs o → IsLeastUnseated pid_of pieces xs (lesser o p)
  least_less xs o p not_seated least = record {
    unseated = lesser_of (λ q. IsSeated pieces q → ⊥) o p not_seated least.unseated;
    before = In-All (λ x. IfSome (lesser o p) (IsBelow (pid_of x)) → IsSeated pieces (pid_of x)) xs
        (λ x i below. All-In (λ y. IfSome o (IsBelow (pid_of y)) → IsSeated pieces (pid_of y)) xs x
        least.before i
        (lesser_below o p (pid_of x) below));
  }

  -- one item more, which is seated, or isn't
  pub least_seated : (xs : List X) (i : ℕ) (x : X) (o : Option Pid) → i < length xs
      → x ≡ get_or xs i x
      → IsSeated pieces (pid_of x) → IsLeastUnseated pid_of pieces (take i xs) o
      → IsLeastUnseated pid_of pieces (take (i + 1) xs) o
  least_seated xs i x o within is seated least = record {
    unseated = least.unseated;
    before = All-more (λ y. IfSome o (IsBelow (pid_of y)) → IsSeated pieces (pid_of y)) xs i x
        within least.before
        (λ below. subst (λ y. IsSeated pieces (pid_of y)) is seated);
  }

  pub least_unseated : (xs : List X) (i : ℕ) (x : X) (o : Option Pid) → i < length xs
      → x ≡ get_or xs i x
      → (IsSeated pieces (pid_of x) → ⊥) → IsLeastUnseated pid_of pieces (take i xs) o
      → IsLeastUnseated pid_of pieces (take (i + 1) xs) (lesser o (pid_of x))
  least_unseated xs i x o within is not_seated least =
      let P : X → Type 0 = λ y. IfSome (lesser o (pid_of x)) (IsBelow (pid_of y))
      → IsSeated pieces (pid_of y) in
      let rest = least_less (take i xs) o (pid_of x) not_seated least in record {
        unseated = rest.unseated;
        before = All-more P xs i x within rest.before
            (subst P is (λ below. absurd (lesser_itself o (pid_of x) below)));
      }

-- ---- all pids

someone : {X : Type 0} (pid_of : X → Pid) (xs : List X) (p : Pid)
    → ((x : X) × (In x xs × (pid_of x ≡ p))) ⊎ (filter (λ x. pid_eq (pid_of x) p) xs ≡ [])
someone pid_of [] p = inr refl
someone pid_of (x ∷ xs) p =
    elim (pid_eq (pid_of x) p) as (λ b. pid_eq (pid_of x) p ≡ b
    → ((y : _) × (In y (x ∷ xs) × (pid_of y ≡ p)))
    ⊎ (cond b (x ∷ filter (λ y. pid_eq (pid_of y) p) xs) (filter (λ y. pid_eq (pid_of y) p) xs)
    ≡ [])) [
      | true ↦ λ is. inl (x, (inl refl, pid_eq-true (pid_of x) p is))
      | false ↦ λ is. ⊎_elim (λ found. inl (found.0, (inr found.1.0, found.1.1))) (λ none. inr none)
          (someone pid_of xs p)
    ] refl

-- who has neither a log nor a seat is seated
pub seated_each : (pieces : Parts) (R : Pid → Type 0)
    → ((x : Control) → In x pieces.processes → R x.process.pid → IsSeated pieces x.process.pid)
    → ((s : Calls) → In s pieces.seats → R s.pid → IsSeated pieces s.pid)
    → (p : Pid) → R p → IsSeated pieces p
seated_each pieces R logs seats p holds =
    ⊎_elim
    (λ found. subst (IsSeated pieces) found.1.1
    (logs found.0 found.1.0 (subst R (sym found.1.1) holds)))
    (λ no_log. ⊎_elim
    (λ found. subst (IsSeated pieces) found.1.1
    (seats found.0 found.1.0 (subst R (sym found.1.1) holds)))
    (λ no_seat. no_seat ∙ sym (ap (map seat_of) no_log))
    (someone (λ (s : Calls). s.pid) pieces.seats p))
    (someone (λ (x : Control). x.process.pid) pieces.processes p)

-- the least of all logs and of all seats is the least of all pids
pub first_of_both : (pieces : Parts) (o : Option Pid)
    → IsLeastUnseated (λ (x : Control). x.process.pid) pieces pieces.processes o
    → IsLeastUnseated (λ (s : Calls). s.pid) pieces pieces.seats o
    → MatchOption o ((p : Pid) → IsSeated pieces p) (IsFirstUnseated pieces)
first_of_both pieces None logs seats = λ p. seated_each pieces (λ q. Unit {0})
    (λ x i r. All-In (λ (y : Control). Unit {0} → IsSeated pieces y.process.pid) pieces.processes x
    logs.before i tt)
    (λ s i r. All-In (λ (t : Calls). Unit {0} → IsSeated pieces t.pid) pieces.seats s seats.before i
    tt) p tt
first_of_both pieces (Some l) logs seats = record {
  here = logs.unseated;
  before = λ q below. seated_each pieces (λ p. IsBelow p l)
      (λ x i r. All-In (λ (y : Control). IsBelow y.process.pid l → IsSeated pieces y.process.pid)
      pieces.processes x
      logs.before i r)
      (λ s i r. All-In (λ (t : Calls). IsBelow t.pid l → IsSeated pieces t.pid) pieces.seats s
      seats.before i r) q
      below;
}
