-- The check stops if the world refuses the act or the act reports another event; else world and
-- comparison have taken the act.
use Rattle.std.proofs.Common.{take}
use Rattle.std.proofs.lemmas.Bool.{MatchBool-at_true, MatchBool-at_false}
use Rattle.st_check.proofs.NextActs.{differs_next, many, passed_even, passes_next, refused_at}
use Rattle.st_check.proofs.progress.Progress.advance.Goals as goal

pub returns-in-Err-clause-stop : goal.returns-in-Err-clause-stop
returns-in-Err-clause-stop g c =
    let kept = c.args.self.now in
    rw c.stop_of.ensures (refused_at g.row.TOP c.args.streams.now c.args.acts.now c.args.number _
    kept.world
    kept.comparison c.requires.within c.requires.passed c.in-Err.fault c.in-Err.ensures.fault)

pub advance-compared-requires : goal.advance-compared-requires
advance-compared-requires g c =
    passed_even g.row.TOP c.args.streams.now (take c.args.number c.args.acts.now)
    c.args.self.now.world
    c.args.self.now.comparison c.requires.passed

pub returns-then-not-passes-clause-stop : goal.returns-then-not-passes-clause-stop
returns-then-not-passes-clause-stop g c =
    let top = g.row.TOP in
    let acts = c.args.acts.now in
    let n = c.args.number in
    let kept = c.args.self.now in
    let steps = c.in-Ok.ensures.step in
    differs_next top c.args.streams.now acts n _ kept.world kept.comparison c.requires.within
    c.requires.passed _ steps
    (MatchBool-at_false _ _ c.if-not-passes.true
    (c.in-Ok-compared.ensures top (take n acts) kept.world c.step.new.self
    (many acts n c.requires.within) c.requires.passed steps))

pub returns-clause-passed : goal.returns-clause-passed
returns-clause-passed g c =
    let top = g.row.TOP in
    let acts = c.args.acts.now in
    let n = c.args.number in
    let kept = c.args.self.now in
    let steps = c.in-Ok.ensures.step in
    passes_next top c.args.streams.now acts n _ kept.world kept.comparison c.requires.within
    c.requires.passed _
    c.advance-compared.new.self steps
    (MatchBool-at_true _ _ c.if-not-passes.false
    (c.in-Ok-compared.ensures top (take n acts) kept.world
    c.step.new.self (many acts n c.requires.within) c.requires.passed steps))
