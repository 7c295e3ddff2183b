-- The act is the next one, and its step leads from the world to the world after it.
use Rattle.std.proofs.Common.{sym, subst, IfSome}
use Rattle.std.proofs.lemmas.Option.{IfSome_then}
use Rattle.st_check.proofs.ForCallers.{passed_even}
use Rattle.st_check.specs.Progress.{IsPassedBy}
use Rattle.st_audit.proofs.construction.Construction.perform.Goals as goal

pub compare-requires : goal.compare-requires
compare-requires g c =
    let old = c.args.self.now in
    IfSome_then old.comparison c.requires
    (λ x passed. passed_even g.row.TOP c.args.streams.now old.acts old.world x passed)

pub returns-clause-matched : goal.returns-clause-matched
returns-clause-matched g c =
    let top = g.row.TOP in
    let streams = c.args.streams.now in
    let old = c.args.self.now in
    let world = c.step.new.self in
    subst (λ xs. IfSome c.compare.new.comparison (IsPassedBy top streams xs world))
    (sym c.in-Ok.ensures.ok)
    (c.in-Ok-compare.ensures top old.acts old.world world (sym c.len-number.ensures) c.requires
    c.in-Ok-step.ensures.step)
