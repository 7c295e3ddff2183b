-- So far these are the backs of the streams that were taken.
use Rattle.std.proofs.Common.{◌≡◌, map, take}
use Rattle.st_chain.specs.Causes.{backs_from}
use Rattle.st_chain.proofs.receives.all_backs.Given as goal

abbrev pub invariant-loop-pid : goal.invariant-loop-pid
invariant-loop-pid l = l.lists.items
    ≡ map (λ s. backs_from s.events 0 s.events) (take l.pid-index l.streams)
