-- After one more event the greatest count is the greater of both, and the event leaves its own
-- prev or count.
use Rattle.std.proofs.Common.{◌≡◌, ℕ, ◌+◌, List, [], ◌∷◌, ◌++◌, max, take, slice_get, Some, sym}
use Rattle.std.proofs.Common.{◌∙◌, ap, add-one}
use Rattle.st_core.specs.declared.types.Event.{Event}
use Rattle.st_core.specs.Laws.{greatest_count, prev_after}
use Rattle.st_core.proofs.ForCallers.{greatest_push, prev_push}
use Rattle.st_plan.proofs.ForCallers.{take_more}
use Rattle.lack_needs.specs.declared.flaws.Left.{Left}
use Rattle.lack_needs.specs.Flaws.{left_by}

pub left_more : (es : List Event) (i : ℕ) (e : Event) → slice_get es i ≡ Some e
    → left_by (take i es ++ e ∷ []) ≡ left_by (take (i + 1) es)
left_more es i e at = ap left_by (sym (rw add-one (take_more es i e at)))

pub left_push : (es : List Event) (e : Event) (greatest prev : ℕ)
    → greatest ≡ max (greatest_count es) e.serial.this → prev ≡ prev_after (e ∷ [])
    → (let left : Left = record { greatest = greatest; prev = prev } in left)
    ≡ left_by (es ++ e ∷ [])
left_push es e greatest prev is leaves =
    let high = is ∙ sym (greatest_push es e) in
    let last = leaves ∙ sym (prev_push es e) in
    λ k. record { greatest = high k; prev = last k }
