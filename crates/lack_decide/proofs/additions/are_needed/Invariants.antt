-- Each unmarked event taken so far is needed.
use Rattle.std.proofs.Common.{◌≡◌, ℕ, ◌<◌, false, get_or, slice_get, Some}
use Rattle.st_core.specs.declared.types.Event.{Event}
use Rattle.lack_decide.specs.Needed.{IsNeededAmong}
use Rattle.lack_decide.proofs.additions.are_needed.Given as goal

abbrev pub invariant-loop-index : goal.invariant-loop-index
invariant-loop-index l = (i : ℕ) (e : Event) → i < l.index → slice_get l.events i ≡ Some e
    → get_or l.marks i false ≡ false → IsNeededAmong l.streams l.events l.marks i e
