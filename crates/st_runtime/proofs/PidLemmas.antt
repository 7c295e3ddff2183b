-- A search of pids finds a pid exactly if it is among them.
use Rattle.std.proofs.Common.{◌≡◌, ℕ, true, false, List, length, get_or, refl, sym, ◌∙◌, ap}
use Rattle.std.proofs.Common.{is_some, Option, Some, None, IfNone, IfSome, Result, Ok, Err}
use Rattle.std.specs.List.{AllByRecursion}
use Rattle.std.specs.List.Sorted.{IsBinarySearchResult, IsSearchInRange}
use Rattle.std.specs.Prelude.{not, slice_get}
use Rattle.std.specs.Result.{result_ok}
use Rattle.std.proofs.lemmas.Option.{slice_get-get_or}
use Rattle.st_core.specs.declared.types.Pid.{Pid}
use Rattle.st_core.specs.Pid.{pid_cmp, pid_eq}
use Rattle.st_core.specs.Streams.{is_among}
use Rattle.st_core.proofs.ForCallers.{pid_cmp-Equal, pid_eq-refl, pid_eq-true, is_among-found}
use Rattle.st_core.proofs.ForCallers.{is_among-missing}

-- a place that was searched for
pub place_tells : (ps : List Pid) (p : Pid) (o : Option ℕ)
    → IfSome o (λ i. slice_get ps i ≡ Some p)
    → IfNone o (AllByRecursion (λ q. pid_eq q p ≡ false) ps)
    → is_some o ≡ is_among ps p
place_tells ps p (Some i) found missing = sym (is_among-found ps p i found)
place_tells ps p None found missing = sym (is_among-missing ps p missing)

-- a pid that a binary search finds
pub found_from_search : (ps : List Pid) (x : Pid) (r : Result ℕ ℕ)
    → IsSearchInRange r (length ps) → IsBinarySearchResult (λ y. pid_cmp y x) ps r
    → IfSome (result_ok r) (λ i. slice_get ps i ≡ Some x)
found_from_search ps x (Ok i) within found =
    slice_get-get_or ps i x within ∙ ap (λ y. Some y) (pid_cmp-Equal (get_or ps i x) x (found x))
found_from_search ps x (Err i) within found = tt

-- pids that don't compare as different are equal
pub same_unless : (p q : Pid) → not (pid_eq p q) ≡ false → p ≡ q
same_unless p q alike =
    elim (pid_eq p q) as (λ b. pid_eq p q ≡ b → not b ≡ false → p ≡ q) [
      | true ↦ λ is _. pid_eq-true p q is
      | false ↦ λ is alike. absurd (cc)
    ] refl alike

-- pids that compare as different aren't equal
pub apart_if : (p q : Pid) → not (pid_eq p q) ≡ true → ¬ (p ≡ q)
apart_if p q apart same =
    let alike : pid_eq p q ≡ true = ap (λ x. pid_eq x q) same ∙ pid_eq-refl q in
    let no : not (pid_eq p q) ≡ false = ap not alike in
    absurd (cc)
