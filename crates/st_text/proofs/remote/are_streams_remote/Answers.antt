-- A stream's lines are its process and its events, so that each process is tested once.
use Rattle.std.proofs.Common.{◌∙◌, ap, sym, length, arith}
use Rattle.std.specs.List.{list_any}
use Rattle.std.proofs.lemmas.List.{take_all}
use Rattle.st_core.specs.Run.{pids_of}
use Rattle.st_text.specs.Parts.Remote.{is_process_remote}
use Rattle.st_text.proofs.RemoteLemmas.{streams_remote, any_at}
use Rattle.st_text.proofs.remote.are_streams_remote.Goals as goal

pub returns-then-is_process_remote : goal.returns-then-is_process_remote
returns-then-is_process_remote c =
    let ss = c.args.streams.now in
    sym (streams_remote ss c.pids-pid-items.ensures.streams
    ∙ ap (list_any (is_process_remote ss)) (sym c.pids-pid-items.ensures.value)
    ∙ any_at (is_process_remote ss) c.pids-pid-items.result.now c.loop-pid.pid-index _
    c.loop-pid-test.true
    (sym c.is_process_remote.ensures ∙ c.if-is_process_remote.true))

pub returns : goal.returns
returns c =
    let ss = c.args.streams.now in
    sym (streams_remote ss c.pids-pid-items.ensures.streams
    ∙ ap (list_any (is_process_remote ss))
    (sym (take_all c.loop-pid.pid-index (pids_of ss)
    (omega (arith, ap length c.pids-pid-items.ensures.value))))
    ∙ c.loop-pid.invariant)
