-- So far each send and print has its back, and the receives that were passed are known.
use Rattle.std.proofs.Common.{◌≡◌, ◌++◌, drop}
use Rattle.st_chain.specs.Causes.{backs_from}
use Rattle.st_chain.specs.Kept.{ArePassed}
use Rattle.st_chain.proofs.receives.backs.Given as goal

-- the backs that were found, and then those of the events that are left, are all the backs
abbrev pub invariant-loop-i : goal.invariant-loop-i
invariant-loop-i l = record {
  passed : ArePassed l.events l.i l.passed;
  found : l.found.items ++ backs_from l.events l.i (drop l.i l.events)
      ≡ backs_from l.events 0 l.events;
}
