-- The sends so far are those of the streams so far.
use Rattle.std.proofs.Common.{◌≡◌, map, take}
use Rattle.node_streams.specs.Messages.{taken_sends}
use Rattle.node_streams.proofs.sends.all_taken_sends.Given as goal

abbrev pub invariant-loop-pid : goal.invariant-loop-pid
invariant-loop-pid l =
    l.lists.items ≡ map (λ s. taken_sends l.streams s.events) (take l.pid-index l.streams)
