-- Pids rise if each is below the next, since their order is transitive.
use Rattle.std.proofs.Common.{◌≡◌, ℕ, ◌<◌, ◌+◌, zero, suc, Bool, true, false, List, [], ◌∷◌, length}
use Rattle.std.proofs.Common.{get_or, IsTrue, ◌↔◌, refl, sym, ap, arith}
use Rattle.std.specs.List.{AllByRecursion, IsAllAdjacentAnswer}
use Rattle.std.specs.declared.cmp.Ordering.TheVariants.{Less}
use Rattle.std.specs.Ordering.{is_lt}
use Rattle.std.proofs.lemmas.List.Elements.{All-from_recursion}
use Rattle.st_core.specs.declared.types.Pid.{Pid}
use Rattle.st_core.specs.Pid.{pid_cmp, IsBelow, IsRising}
use Rattle.st_core.proofs.Pids.{IsBelow-trans, is_lt-true}

pub rising_at : (ps : List Pid) (i j : ℕ) (d : Pid)
    → IsRising ps → i < j → j < length ps → IsBelow (get_or ps i d) (get_or ps j d)
rising_at (p ∷ ps) zero (suc j) d rising before within =
    All-from_recursion (IsBelow p) ps rising.0 j d (omega arith)
rising_at (p ∷ ps) (suc i) (suc j) d rising before within =
    rising_at ps i j d rising.1 (omega arith) (omega arith)
rising_at ps i j d rising before within = absurd (omega arith)

all_above : (p q : Pid) (ps : List Pid) → IsBelow p q → AllByRecursion (IsBelow q) ps
    → AllByRecursion (IsBelow p) ps
all_above p q [] below all = tt
all_above p q (x ∷ xs) below all = (IsBelow-trans p q x below all.0, all_above p q xs below all.1)

next : (k : ℕ) → k + 1 ≡ suc k
next k = omega arith

abbrev NeighboursRise : List Pid → Type 0
NeighboursRise ps = (k : ℕ) (d : Pid) → suc k < length ps
    → IsBelow (get_or ps k d) (get_or ps (suc k) d)

rising_from_neighbours : (ps : List Pid) → NeighboursRise ps → IsRising ps
rising_from_neighbours [] each = tt
rising_from_neighbours (p ∷ []) each = (tt, tt)
rising_from_neighbours (p ∷ q ∷ ps) each =
    let below : IsBelow p q = each 0 p (omega arith) in
    let rest : IsRising (q ∷ ps) =
    rising_from_neighbours (q ∷ ps) (λ k d within. each (suc k) d (omega arith)) in
    ((below, all_above p q ps below rest.0), rest)

-- `is_sorted_by` returns whether the pids rise
pub rising_from_answer : (ps : List Pid) (r : Bool)
    → IsAllAdjacentAnswer (λ x y b. b ≡ is_lt (pid_cmp x y)) ps r → IsTrue r ↔ IsRising ps
rising_from_answer ps true is =
    let each : NeighboursRise ps = λ k d within.
    is_lt-true (pid_cmp (get_or ps k d) (get_or ps (suc k) d))
    (sym (rw (← next k) (is k d (omega arith)))) in
    (λ _. rising_from_neighbours ps each, λ _. refl)
rising_from_answer ps false is = (
  λ e. absurd (cc),
  λ rising.
      let d : Pid = record { node = 0; number = 0 } in
      let below : pid_cmp (get_or ps is.0 d) (get_or ps (is.0 + 1) d) ≡ Less =
      rising_at ps is.0 (is.0 + 1) d rising (omega arith) is.1 in
      absurd (cc (is.2 d, ap is_lt below)),
)
