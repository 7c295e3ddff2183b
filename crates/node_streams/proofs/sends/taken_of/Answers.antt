-- The sends of a process are kept at its place.
use Rattle.std.proofs.Common.{◌∙◌}
use Rattle.node_streams.specs.Messages.{taken_sends}
use Rattle.st_pair.proofs.ForCallers.{process_read}
use Rattle.node_streams.proofs.sends.taken_of.Goals as goal

pub returns-in-Some : goal.returns-in-Some
returns-in-Some c = λ streams p rising are at.
    c.as_slice.ensures
    ∙ process_read (taken_sends streams) streams p c.args.place c.args.taken.now c.in-Some.sends.now
    rising are at c.in-Some.ensures.lookup.1
