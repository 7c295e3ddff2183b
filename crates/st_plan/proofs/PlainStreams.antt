-- If all events are told, the told events are all events, so the acts that are built of plain
-- streams show them.
use Rattle.std.proofs.Common.{◌≡◌, ℕ, ◌+◌, true, List, [], ◌∷◌, Some, refl, ap, subst}
use Rattle.st_core.specs.declared.types.Event.{Event}
use Rattle.st_core.specs.declared.types.Act.{Act}
use Rattle.st_core.specs.Run.{Shows, Stream}
use Rattle.st_core.specs.Streams.{IsStreams}
use Rattle.st_order.specs.Order.{order}
use Rattle.st_plan.specs.Marks.{all_told, told_events_from, told_parts}
use Rattle.st_plan.specs.Moves.{moves}
use Rattle.st_plan.specs.Plain.{IsPlain}
use Rattle.st_plan.specs.Build.{construction}
use Rattle.st_plan.proofs.SettledStreams.{settled_is_shown}

pub told_whole : (i : ℕ) (es : List Event) → told_events_from (λ n. true) i es ≡ es
told_whole i [] = refl
told_whole i (e ∷ es) = ap (λ ds. e ∷ ds) (told_whole (i + 1) es)

pub only_whole : (streams : List Stream) → told_parts all_told streams ≡ streams
only_whole [] = refl
only_whole (x ∷ streams) =
    rw (told_whole 0 x.events, only_whole streams) refl

pub plain_is_shown : (top : ℕ) (streams : List Stream) → IsStreams streams → IsPlain top streams
    → (acts : List Act) × (construction top streams all_told (moves streams (order streams))
    ≡ Some acts)
    × Shows top streams acts
plain_is_shown top streams sound plain =
    let shown = settled_is_shown top streams all_told sound plain.settled in
    (shown.0, shown.1, subst (λ ss. Shows top ss shown.0) (only_whole streams) shown.2)
