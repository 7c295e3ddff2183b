-- After the loop all acts have passed, so the state gives the verdict; and what a yes shows holds
-- in every run.
use Rattle.std.proofs.Common.{arith, take}
use Rattle.st_check.specs.Answers.{verdict_of}
use Rattle.st_check.proofs.AllActs.{all}
use Rattle.st_check.proofs.NextActs.{passed_even}
use Rattle.st_check.proofs.Verdicts.{verdict_follows, verdict_pairs, verdict_rises}
use Rattle.st_check.proofs.checking.check.Goals as goal

pub into_verdict-requires : goal.into_verdict-requires
into_verdict-requires g c =
    let loop = c.loop-number in (
      omega arith,
      passed_even g.row.TOP c.args.streams.now (take loop.number c.args.acts.now)
          loop.progress.world
          loop.progress.comparison loop.invariant,
    )

pub returns-clause-verdict : goal.returns-clause-verdict
returns-clause-verdict g c =
    let loop = c.loop-number in
    c.into_verdict.ensures c.args.acts.now
    (all g.row.TOP c.args.streams.now c.args.acts.now loop.number
    loop.progress.world loop.progress.comparison c.loop-number-test.false loop.invariant)

pub returns-clause-follows : goal.returns-clause-follows
returns-clause-follows g c =
    verdict_follows g.row.TOP c.args.streams.now c.args.acts.now (verdict_of c.into_verdict.result)
    (returns-clause-verdict g c)

pub returns-clause-paired : goal.returns-clause-paired
returns-clause-paired g c =
    verdict_pairs g.row.TOP c.args.streams.now c.args.acts.now (verdict_of c.into_verdict.result)
    (returns-clause-verdict g c)

pub returns-clause-rises : goal.returns-clause-rises
returns-clause-rises g c =
    verdict_rises g.row.TOP c.args.streams.now c.args.acts.now (verdict_of c.into_verdict.result)
    (returns-clause-verdict g c)
