-- Each run has the send of a received message, as its receive shows it.
use Rattle.lack_needs.proofs.AllRuns.{sent_in_all}
use Rattle.lack_needs.proofs.losses.is_sent.Goals as goal

pub returns-clause-sent : goal.returns-clause-sent
returns-clause-sent c = λ yes top. sent_in_all c.runs_have_full_completions.ensures
    c.with_silent_processes_streams_are_streams.ensures c.args.streams.now
    c.pids-is_streams.ensures.streams c.args.event.now c.args.receive.0 c.args.receive.1
    (c.is_received.ensures.0 yes) top
