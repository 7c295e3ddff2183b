-- The events taken so far are fit.
use Rattle.std.proofs.Common.{◌≡◌, ℕ, ◌<◌, slice_get, take, Some}
use Rattle.st_core.specs.declared.types.Event.{Event}
use Rattle.lack_needs.specs.Flaws.{left_by}
use Rattle.lack_decide.specs.Links.{IsEventFit}
use Rattle.lack_decide.proofs.judge.are_fit.Given as goal

-- `left` is what they leave
abbrev pub invariant-loop-i : goal.invariant-loop-i
invariant-loop-i l = record {
  left : l.left ≡ left_by (take l.i l.events);
  fit : (j : ℕ) (e : Event) → j < l.i → slice_get l.events j ≡ Some e
      → IsEventFit l.top l.streams l.links l.events j e;
}
