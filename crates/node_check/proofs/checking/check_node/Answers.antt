-- After the loop all acts passed, so the tables give the verdict; and a no refutes.
use Rattle.std.proofs.Common.{◌+◌, ◌≤◌, length, map, subst, take, arith}
use Rattle.std.proofs.lemmas.List.{length-map}
use Rattle.node_check.specs.declared.verdict.NodeVerdict.TheVariants as verdict
use Rattle.node_check.specs.Progress.{IsStopOnNode}
use Rattle.node_check.proofs.NextActs.{act_within, all_passed, differs_verdict, stuck_verdict}
use Rattle.node_check.proofs.Verdicts.{no_shows}
use Rattle.node_check.proofs.checking.check_node.Goals as goal

pub verdict-requires : goal.verdict-requires
verdict-requires g c = c.loop-number.invariant.passed.counts_len

pub returns-in-Err-Stuck-clause-verdict : goal.returns-in-Err-Stuck-clause-verdict
returns-in-Err-Stuck-clause-verdict g c =
    let loop = c.loop-number in
    let acts = map g.A.ToNodeAct.on_node c.args.acts.now in
    stuck_verdict c.args.streams.now acts loop.number loop.progress
    (act_within g.A.ToNodeAct.on_node c.args.acts.now loop.number c.loop-number-test.true)
    loop.invariant
    (subst (IsStopOnNode c.args.streams.now (take (loop.number + 1) acts))
    c.in-Err-Stuck.field-0-is c.in-Err-Stuck.ensures.stop)

pub returns-in-Err-Stuck-clause-refutes : goal.returns-in-Err-Stuck-clause-refutes
returns-in-Err-Stuck-clause-refutes g c =
    no_shows c.args.streams.now (map g.A.ToNodeAct.on_node c.args.acts.now)
    (verdict.Stuck c.loop-number.number) (returns-in-Err-Stuck-clause-verdict g c)

pub returns-in-Err-Differs-clause-verdict : goal.returns-in-Err-Differs-clause-verdict
returns-in-Err-Differs-clause-verdict g c =
    let loop = c.loop-number in
    let acts = map g.A.ToNodeAct.on_node c.args.acts.now in
    differs_verdict c.args.streams.now acts loop.number loop.progress
    (act_within g.A.ToNodeAct.on_node c.args.acts.now loop.number c.loop-number-test.true)
    loop.invariant
    (subst (IsStopOnNode c.args.streams.now (take (loop.number + 1) acts))
    c.in-Err-Differs.field-0-is c.in-Err-Differs.ensures.stop)

pub returns-in-Err-Differs-clause-refutes : goal.returns-in-Err-Differs-clause-refutes
returns-in-Err-Differs-clause-refutes g c =
    no_shows c.args.streams.now (map g.A.ToNodeAct.on_node c.args.acts.now)
    (verdict.Differs c.loop-number.number) (returns-in-Err-Differs-clause-verdict g c)

pub returns-clause-verdict : goal.returns-clause-verdict
returns-clause-verdict g c =
    let loop = c.loop-number in
    let acts = map g.A.ToNodeAct.on_node c.args.acts.now in
    let size = length-map c.args.acts.now g.A.ToNodeAct.on_node in
    let all = c.loop-number-test.false in
    let whole : length acts ≤ loop.number = omega arith in
    c.verdict.ensures acts
    (all_passed c.args.streams.now acts loop.progress loop.number whole loop.invariant)

pub returns-clause-refutes : goal.returns-clause-refutes
returns-clause-refutes g c =
    no_shows c.args.streams.now (map g.A.ToNodeAct.on_node c.args.acts.now) c.verdict.result
    (returns-clause-verdict g c)
