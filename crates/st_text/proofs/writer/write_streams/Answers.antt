-- The texts of the processes are written one after the other.
use Rattle.std.proofs.Common.{◌≡◌, ap, ◌∙◌, sym, List, ℕ}
use Rattle.std.specs.List.{flat_map}
use Rattle.st_core.specs.declared.types.Pid.{Pid}
use Rattle.st_core.specs.Run.{Stream, pids_of}
use Rattle.st_core.specs.Streams.{events_of, IsStreams}
use Rattle.st_text.specs.Text.{ended, process_lines}
use Rattle.st_text.proofs.ListedPids.{by_pids, stream_at}
use Rattle.st_text.proofs.Puts.{goes_still, flat_map-flat_map, one_more, one_failed, all_done}
use Rattle.st_text.proofs.Puts.{on_err}
use Rattle.st_text.proofs.writer.write_streams.Goals as goal

-- the text of a process and its events
abbrev text_of : List Stream → Pid → List ℕ
text_of ss p = flat_map ended (process_lines (record { pid = p; events = events_of ss p }))

whole : (ss : List Stream) (ps : List Pid) → ps ≡ pids_of ss → IsStreams ss
    → flat_map ended (flat_map process_lines ss) ≡ flat_map (text_of ss) ps
whole ss ps e is =
    ap (flat_map ended) (by_pids ss is.draft.rising)
    ∙ flat_map-flat_map ended (λ p. process_lines (stream_at (events_of ss) p)) (pids_of ss)
    ∙ ap (flat_map (text_of ss)) (sym e)

pub loop-pid-init : goal.loop-pid-init
loop-pid-init g c = goes_still g.S.ByteSink.puts g.S.ByteSink.failed

pub loop-pid-preserved : goal.loop-pid-preserved
loop-pid-preserved g c =
    one_more g.S.ByteSink.puts g.S.ByteSink.failed (text_of c.args.streams.now)
    c.pids-pid-items.result.now
    c.loop-pid.pid-index _ c.loop-pid-test.true c.loop-pid.invariant c.in_ok-write_process.ensures

pub returns-in_err-write_process : goal.returns-in_err-write_process
returns-in_err-write_process g c =
    on_err _ _ _ _ c.from_residual.ensures.0
    (one_failed g.S.ByteSink.puts g.S.ByteSink.failed (text_of c.args.streams.now)
    c.pids-pid-items.result.now
    c.loop-pid.pid-index _ (whole c.args.streams.now c.pids-pid-items.result.now
    c.pids-pid-items.ensures.value
    c.pids-pid-items.ensures.streams) c.loop-pid-test.true c.loop-pid.invariant
    c.in_err-write_process.ensures)

pub returns : goal.returns
returns g c =
    all_done g.S.ByteSink.puts g.S.ByteSink.failed (text_of c.args.streams.now)
    c.pids-pid-items.result.now
    c.loop-pid.pid-index (whole c.args.streams.now c.pids-pid-items.result.now
    c.pids-pid-items.ensures.value
    c.pids-pid-items.ensures.streams) c.loop-pid-test.false c.loop-pid.invariant
