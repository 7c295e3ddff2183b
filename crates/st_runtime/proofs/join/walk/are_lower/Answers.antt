-- Pids rise, so that no node before the last of them is higher than its own.
use Rattle.std.proofs.Common.{◌<◌, arith, subst}
use Rattle.st_core.specs.declared.types.Pid.{Pid}
use Rattle.st_runtime.proofs.Passing.{below_from, lower_before}
use Rattle.st_runtime.proofs.join.walk.are_lower.Goals as goal

pub returns-in-Some : goal.returns-in-Some
returns-in-Some c low =
    let last = c.in-Some.ensures in
    let nobody : Pid = record { node = 0; number = 0 } in
    lower_before c.args.pids.now c.args.node c.in-Some.last c.args.first nobody c.requires.rising
    (omega (arith, last.0, last.1)) c.requires.first
    (subst (λ n. n < c.args.node) c.node.ensures (below_from c.node.result c.args.node low))
