-- The candidates are asked first, then all processes, with the walk at the same place.
use Rattle.node_streams.proofs.Turns.{same_walk}
use Rattle.node_streams.proofs.walk.Walk.next.Goals as goal

pub returns-in-None : goal.returns-in-None
returns-in-None c = record {
  done = c.candidate.ensures.done;
  free = λ order at. c.free_process.ensures.free order
      (same_walk c.args.streams.now order c.args.self.now c.candidate.new.self
      c.candidate.ensures.done at);
  none = λ order at. c.free_process.ensures.none order
      (same_walk c.args.streams.now order c.args.self.now c.candidate.new.self
      c.candidate.ensures.done at);
}
