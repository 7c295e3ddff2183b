-- The acts of events add up, one event and one process after the other.
use Rattle.std.proofs.Common.{◌≡◌, ℕ, ◌+◌, suc, List, drop, take, slice_get, Some}
use Rattle.std.proofs.Common.{sym, ◌∙◌, ap, arith}
use Rattle.st_core.specs.declared.types.Event.{Event}
use Rattle.st_pair.proofs.ForCallers.{drop_next}
use Rattle.st_plan.proofs.ForCallers.{take_more}
use Rattle.lack_decide.specs.Bounds.{acts_after, saturated, skipped}

-- the acts of event i and those after it are its own and theirs
pub acts_next : (es : List Event) (i : ℕ) (e : Event) → slice_get es i ≡ Some e
    → acts_after (take i es) (drop i es)
    ≡ 6 + skipped (take i es) e + acts_after (take (i + 1) es) (drop (i + 1) es)
acts_next es i e at =
    let next : suc i ≡ i + 1 = omega arith in
    ap (acts_after (take i es)) (drop_next es i e at)
    ∙ ap (λ before. 6 + skipped (take i es) e + acts_after before (drop (suc i) es))
    (sym (take_more es i e at))
    ∙ ap (λ n. 6 + skipped (take i es) e + acts_after (take n es) (drop n es)) next

-- sums may be cut off at the greatest number one by one
pub sums_on : (count more rest : ℕ)
    → saturated (saturated (count + saturated more) + rest) ≡ saturated (count + (more + rest))
sums_on count more rest = omega arith
