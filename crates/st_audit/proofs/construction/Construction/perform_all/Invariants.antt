-- The acts so far ran, and were put at the end.
use Rattle.std.proofs.Common.{◌≡◌, take}
use Rattle.st_audit.specs.Progress.{IsMatched}
use Rattle.st_audit.proofs.Attempts.{Performed}
use Rattle.st_audit.proofs.construction.Construction.perform_all.Given as goal

abbrev pub invariant-loop-act : goal.invariant-loop-act
invariant-loop-act g l =
    Performed (take l.act-index l.plan) l.initial.self l.self
    × (l.self.skipped ≡ l.initial.self.skipped) × (l.self.told ≡ l.initial.self.told)
    × IsMatched l.streams l.self
