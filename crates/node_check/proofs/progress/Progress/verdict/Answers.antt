-- All acts passed, so the counts decide.
use Rattle.st_core.specs.Run.{pids_of}
use Rattle.node_check.specs.Kept.{kept_state}
use Rattle.node_check.proofs.Verdicts.{left_verdict, yes_verdict}
use Rattle.node_check.proofs.progress.Progress.verdict.Goals as goal

pub returns-in-Some : goal.returns-in-Some
returns-in-Some c = λ acts passed.
    let streams = c.args.streams.now in
    let kept = c.args.self.now in
    left_verdict streams passed.rising acts (kept_state (pids_of streams) kept.processes)
    kept.counts.items passed.passed c.in-Some.pid c.in-Some.ensures.found

pub returns-in-None : goal.returns-in-None
returns-in-None c = λ acts passed.
    let streams = c.args.streams.now in
    let kept = c.args.self.now in
    yes_verdict streams passed.rising acts (kept_state (pids_of streams) kept.processes)
    kept.counts.items passed.passed c.in-None.ensures.none
