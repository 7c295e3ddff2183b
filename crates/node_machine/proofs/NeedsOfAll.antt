-- An act is of one process, so the put-backs of several processes are no more than all.
use Rattle.std.proofs.Common.{◌≡◌, ℕ, ◌+◌, ◌≤◌, ◌&&◌, cond, Bool, true, false, List, [], ◌∷◌, Some}
use Rattle.std.proofs.Common.{is_some, refl, arith, sym, ap, subst}
use Rattle.std.specs.List.{AllByRecursion, count_by, sum_by}
use Rattle.std.proofs.lemmas.List.Sums.{sum_by-cons}
use Rattle.st_core.specs.declared.types.Pid.{Pid}
use Rattle.st_core.specs.Pid.{IsBelow, IsRising, pid_eq}
use Rattle.st_core.specs.State.{zero_state}
use Rattle.st_core.specs.Step.{Outcome}
use Rattle.st_core.proofs.ForCallers.{IsBelow-apart, pid_eq-true}
use Rattle.node_machine.specs.Node.{node_actor, node_run, NodeAct, seen_stream}
use Rattle.node_machine.specs.Premises.{all_put_backs, NoNodeReset, put_backs, ReportsTokens}
use Rattle.node_machine.specs.Premises.{token_put_back}
use Rattle.node_machine.specs.Readings.{NeedsAtLeast}
use Rattle.node_machine.proofs.Needs.{needs_put_back}

-- 1 if the process is q and b holds, else 0
abbrev is_one : Pid → Bool → Pid → ℕ
is_one q b p = cond (pid_eq q p && b) 1 0

none_above : (q : Pid) (b : Bool) (ps : List Pid) → AllByRecursion (IsBelow q) ps
    → sum_by (is_one q b) ps ≡ 0
none_above q b [] above = refl
none_above q b (p ∷ ps) above =
    let rest = none_above q b ps above.1 in
    let first = sum_by-cons (is_one q b) p ps in
    let own : is_one q b p ≡ 0 = ap (λ c. cond (c && b) 1 0) (IsBelow-apart q p above.0) in
    omega arith

one_at_most : (q : Pid) (b : Bool) (ps : List Pid) → IsRising ps
    → sum_by (is_one q b) ps ≤ cond b 1 0
one_at_most q b [] rising = omega arith
one_at_most q b (p ∷ ps) rising =
    subst (λ n. n ≤ cond b 1 0) (sym (sum_by-cons (is_one q b) p ps))
    ((elim (pid_eq q p) as (λ c. pid_eq q p ≡ c
    → cond (c && b) 1 0 + sum_by (is_one q b) ps ≤ cond b 1 0) [
      | true ↦ λ is.
          let same = pid_eq-true q p is in
          let above = subst (λ r. AllByRecursion (IsBelow r) ps) (sym same) rising.0 in
          let none = none_above q b ps above in
          omega arith
      | false ↦ λ _. let rest = one_at_most q b ps rising.1 in omega arith
    ]) refl)

sum_of_both : (f g : Pid → ℕ) (ps : List Pid)
    → sum_by (λ p. f p + g p) ps ≡ sum_by f ps + sum_by g ps
sum_of_both f g [] = refl
sum_of_both f g (p ∷ ps) =
    let rest = sum_of_both f g ps in
    let both = sum_by-cons (λ x. f x + g x) p ps in
    let first = sum_by-cons f p ps in
    let second = sum_by-cons g p ps in
    omega arith

pub count_first : {A : Type 0} (test : A → Bool) (x : A) (xs : List A)
    → count_by test (x ∷ xs) ≡ cond (test x) 1 0 + count_by test xs
count_first {A} test x xs = sum_by-cons (λ (y : A). cond (test y) 1 0) x xs

none_put_back : (ps : List Pid) → sum_by (λ p. 0) ps ≤ 0
none_put_back [] = omega arith
none_put_back (p ∷ ps) =
    let rest = none_put_back ps in
    let first = sum_by-cons (λ x. 0) p ps in
    omega arith

put_backs_add_up : (ps : List Pid) → IsRising ps → (acts : List NodeAct)
    → sum_by (λ p. put_backs p acts) ps ≤ all_put_backs acts
put_backs_add_up ps rising [] = none_put_back ps
put_backs_add_up ps rising (a ∷ acts) =
    let b = is_some (token_put_back a) in
    let first = count_first (λ x. is_some (token_put_back x)) a acts in
    let both = sum_of_both (is_one (node_actor a) b) (λ p. put_backs p acts) ps in
    let one = one_at_most (node_actor a) b ps rising in
    let rest = put_backs_add_up ps rising acts in
    omega arith

sum_below : (f g : Pid → ℕ) (ps : List Pid) → AllByRecursion (λ p. f p ≤ g p) ps
    → sum_by f ps ≤ sum_by g ps
sum_below f g [] each = omega arith
sum_below f g (p ∷ ps) each =
    let own = each.0 in
    let rest = sum_below f g ps each.1 in
    let less = sum_by-cons f p ps in
    let more = sum_by-cons g p ps in
    omega arith

module _ (pids : List Pid) (acts : List NodeAct) (os : List Outcome)
    (runs : node_run pids acts ≡ Some os) (no_reset : NoNodeReset acts) where
  each_need : (ps : List Pid) → AllByRecursion (λ p. ReportsTokens p (zero_state pids) acts os) ps
      → (needs : Pid → ℕ) → AllByRecursion (λ p. NeedsAtLeast (seen_stream acts os p) (needs p)) ps
      → AllByRecursion (λ p. needs p ≤ put_backs p acts) ps
  each_need [] reports needs least = tt
  each_need (p ∷ ps) reports needs least = (
    needs_put_back pids acts os runs no_reset p reports.0 (needs p) least.0,
    each_need ps reports.1 needs least.1,
  )

  pub needs_of_all : (ps : List Pid) → IsRising ps
      → AllByRecursion (λ p. ReportsTokens p (zero_state pids) acts os) ps → (needs : Pid → ℕ)
      → AllByRecursion (λ p. NeedsAtLeast (seen_stream acts os p) (needs p)) ps
      → sum_by needs ps ≤ all_put_backs acts
  needs_of_all ps rising reports needs least =
      let each = sum_below needs (λ p. put_backs p acts) ps (each_need ps reports needs least) in
      let all = put_backs_add_up ps rising acts in
      omega arith
