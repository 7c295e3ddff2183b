-- The rule gives nothing at the events that were taken, and the last send or print among them is
-- known.
use Rattle.std.proofs.Common.{◌≡◌, drop}
use Rattle.st_pair.specs.Places.{first_from}
use Rattle.st_pair.specs.Rules.{count_before, fault_at}
use Rattle.st_pair.proofs.rules.Rule.first_fault_in.Given as goal

-- the first fault is at an event left, and `last` is the last send or print so far
abbrev pub invariant-loop-i : goal.invariant-loop-i
invariant-loop-i l = record {
  rest : first_from (fault_at l.self l.streams) l.pid 0 l.events
      ≡ first_from (fault_at l.self l.streams) l.pid l.i (drop l.i l.events);
  last : l.last ≡ count_before l.events l.i;
}
