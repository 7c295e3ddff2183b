-- The partners so far are those of the streams so far.
use Rattle.std.proofs.Common.{◌≡◌, map, take}
use Rattle.node_streams.specs.Messages.{partners}
use Rattle.node_hops.proofs.hops.all_partners.Given as goal

abbrev pub invariant-loop-pid : goal.invariant-loop-pid
invariant-loop-pid l =
    l.lists.items ≡ map (λ s. partners l.streams s.events) (take l.pid-index l.streams)
