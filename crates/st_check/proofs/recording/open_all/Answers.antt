-- Each pid is above those before it, so each is opened.
use Rattle.std.proofs.Common.{◌∙◌, ap, [], take_all, List, ◌++◌, ◌∷◌, get_or}
use Rattle.st_core.specs.declared.types.Pid.{Pid}
use Rattle.st_core.specs.Run.{Stream}
use Rattle.st_check.specs.Answers.{reported_streams}
use Rattle.st_check.proofs.Records.{opened_more, comes_last}
use Rattle.st_check.proofs.recording.open_all.Goals as goal

pub unreachable-requires : goal.unreachable-requires
unreachable-requires c =
    (rw c.in-Err-NotRising.field-0-is at c.in-Err-NotRising.ensures.fault)
    (comes_last c.args.pids.now c.loop-pid.pid-index _ c.loop-pid.draft c.requires
    c.loop-pid-test.true
    c.loop-pid.invariant)

pub loop-pid-preserved : goal.loop-pid-preserved
loop-pid-preserved c =
    let d : Pid = record { node = 0; number = 0 } in
    c.in-Ok.ensures.ok
    ∙ ap (λ (xs : List Stream).
    xs ++ record { pid = get_or c.args.pids.now c.loop-pid.pid-index d; events = [] }
    ∷ []) c.loop-pid.invariant
    ∙ opened_more c.args.pids.now c.loop-pid.pid-index d c.loop-pid-test.true

pub returns : goal.returns
returns c =
    c.loop-pid.invariant
    ∙ ap (λ (ps : List Pid). reported_streams ps [] [])
    (take_all c.loop-pid.pid-index c.args.pids.now c.loop-pid-test.false)
