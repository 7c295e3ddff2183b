-- Both rows are refreshed, and then the token is stamped and the message put.
use Rattle.std.proofs.Common.{refl, ◌∙◌, ap}
use Rattle.st_core.specs.declared.types.Kind.TheVariants as kind
use Rattle.st_core.specs.Report.{report}
use Rattle.std.specs.Prelude.{Some}
use Rattle.node_check.proofs.Sending.{sent}
use Rattle.node_check.proofs.processes.Processes.send.Goals as goal

pub returns : goal.returns
returns c = λ pids rising kept at to_at.
    let first = c.refresh.ensures.refreshed pids kept to_at in
    let second = c.refresh-2.ensures.refreshed pids first.kept at in
    let event = c.event.ensures
    ∙ ap (λ b. report b kind.Send c.token-token.result (Some c.args.to) c.args.value)
    c.traced.ensures in
    sent _ c.args.place c.args.me c.args.other c.args.to c.args.value rising at to_at
    (record {
      kept = second.kept;
      same = second.same ∙ first.same;
      fresh = second.fresh;
      traced = second.traced;
      others = λ j q fresh. second.others j q (first.others j q fresh);
    })
    (second.others c.args.other c.args.to first.fresh) c.index.result.now c.stamp.new.self
    c.token-token.result c.event.result c.index.ensures c.stamp.ensures c.token-token.ensures event
    refl c.in_ok-put.ensures.ok refl
