-- Each process of the node that was clean or listed is clean now, or listed in this slot or a
-- later one; and a reset of the state comes to the same as at the start.
use Rattle.std.proofs.Common.{◌≡◌, ℕ, ◌<◌, ◌⊎◌, List, length, map, get_or, None}
use Rattle.st_core.specs.declared.types.Act.TheVariants as act
use Rattle.st_core.specs.declared.types.Pid.{Pid}
use Rattle.st_core.specs.Step.{reached}
use Rattle.st_world.specs.Nodes.{AreByNode, IsClean, IsCleanOrListed, IsListedFrom}
use Rattle.st_world.specs.Rows.{state_of}
use Rattle.st_world.proofs.nodes.Nodes.wipe.Given as goal

abbrev pub invariant-loop-slot : goal.invariant-loop-slot
invariant-loop-slot g l = record {
  locals_len : length l.locals ≡ length l.self.places;
  queues_len : length l.queues.boxes ≡ length l.self.places;
  left : (i : ℕ) → i < length l.self.places
      → get_or l.self.places i 0 ≡ get_or l.self.places l.number 0
      → IsCleanOrListed l.self l.fn.locals l.fn.queues.boxes i
      → IsClean l.locals l.queues.boxes i ⊎ IsListedFrom l.slot l.self.slots l.node i;
  others : (i : ℕ) → IsClean l.fn.locals l.fn.queues.boxes i → IsClean l.locals l.queues.boxes i;
  state : (pids : List Pid) (me : Pid) → AreByNode pids l.self.places → me ≡ get_or pids l.number me
      → map (reached (act.Reset me) None) (state_of pids l.locals l.queues.boxes)
      ≡ map (reached (act.Reset me) None) (state_of pids l.fn.locals l.fn.queues.boxes);
}
