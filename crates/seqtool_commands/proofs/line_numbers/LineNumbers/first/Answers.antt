-- A process's first line is at its place.
use Rattle.std.proofs.Common.{◌∙◌, ap, sym, Some, arith}
use Rattle.seqtool_commands.proofs.LineFirsts.{first_fits, first_kept, first_missing, kept_long}
use Rattle.seqtool_commands.proofs.line_numbers.LineNumbers.first.Goals as goal

pub index-requires : goal.index-requires
index-requires c =
    let long = kept_long _ _ c.in-Some.place c.args.pid c.self.invariant.kept
    c.in-Some.ensures.found in
    omega (arith, long, c.self.inside.firsts.ok.0)

pub returns-in-None-clause-value : goal.returns-in-None-clause-value
returns-in-None-clause-value c =
    rw (← c.self.view_is) (sym (first_missing 3 _ c.args.pid c.in-None.ensures.missing))

pub returns-in-Some-clause-value : goal.returns-in-Some-clause-value
returns-in-Some-clause-value c =
    rw (← c.self.view_is) (ap Some c.index.ensures
    ∙ first_kept _ _ c.in-Some.place c.args.pid _ c.self.invariant.sound.draft.rising
    c.self.invariant.kept
    c.in-Some.ensures.found)

pub returns-in-Some-clause-fits : goal.returns-in-Some-clause-fits
returns-in-Some-clause-fits c =
    rw (← c.self.view_is) (first_fits _ c.args.pid _ c.self.invariant.fits
    (sym (ap Some c.index.ensures
    ∙ first_kept _ _ c.in-Some.place c.args.pid _ c.self.invariant.sound.draft.rising
    c.self.invariant.kept
    c.in-Some.ensures.found)))
