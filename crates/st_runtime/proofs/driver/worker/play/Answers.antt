-- An act that is accepted is the process's own.
use Rattle.std.proofs.Common.{get_or, arith}
use Rattle.std.proofs.lemmas.List.Elements.{All-more}
use Rattle.st_core.specs.declared.types.Act.{Act}
use Rattle.st_core.specs.declared.types.Act.TheVariants as act
use Rattle.st_core.specs.Pid.{pid_on}
use Rattle.st_runtime.specs.Driven.{IsOwn}
use Rattle.st_runtime.proofs.Members.{All-past}
use Rattle.st_runtime.proofs.Workers.{own_act}
use Rattle.st_runtime.proofs.driver.worker.play.Goals as goal

pub loop-n-preserved : goal.loop-n-preserved
loop-n-preserved g c =
    let pids = c.args.system.now in
    let script = c.args.script.now in
    let nothing : Act = act.Send (pid_on 0 0) (pid_on 0 0) 0 in
    All-more (IsOwn pids c.args.pid) script c.loop-n.n nothing c.loop-n-test.true
    c.loop-n.invariant
    (own_act pids c.args.pid (get_or script c.loop-n.n nothing) c.act_of.result
    c.act_of.ensures.not_yours c.act_of.ensures.unknown c.in_default.not-Err)

pub returns : goal.returns
returns g c = All-past (IsOwn c.args.system.now c.args.pid) c.loop-n.n c.args.script.now
    (omega (arith, c.loop-n-test.false)) c.loop-n.invariant
