-- Pids rise, so each process's stream may be opened after those before it; what they name is
-- listed, so they close.
use Rattle.std.proofs.Common.{◌≡◌, List, sym, subst, true, take}
use Rattle.std.specs.List.{AllByRecursion}
use Rattle.st_core.specs.declared.types.Pid.{Pid}
use Rattle.st_core.specs.Streams.{ComesLast, is_own}
use Rattle.st_log.specs.declared.entry.Entry.{Entry}
use Rattle.st_runtime.specs.Joined.{reports_of, streams_of}
use Rattle.st_runtime.proofs.Collecting.{last_at, reports_own}
use Rattle.st_runtime.proofs.join.collect.streams_of.Goals as goal

pub add_stream-requires-clause-last : goal.add_stream-requires-clause-last
add_stream-requires-clause-last g c =
    let ps = c.args.processes.now in
    let p = c.process-item.result in
    subst (λ d. ComesLast d c.pid.result) (sym c.loop-process.invariant)
    (subst (λ q. ComesLast (streams_of (take c.loop-process.process-index ps)) q)
    (sym c.pid.ensures)
    (last_at ps c.loop-process.process-index p c.loop-process-test.true c.process-item.is
    c.requires.draft.rising))

pub add_stream-requires-clause-own : goal.add_stream-requires-clause-own
add_stream-requires-clause-own g c =
    let ps = c.args.processes.now in
    let p = c.process-item.result in
    let Own : Pid → List Entry
    → Type 0 = λ q log. AllByRecursion (λ e. is_own q e ≡ true) (reports_of q log) in
    subst (λ q. Own q c.log.result.now.entries) (sym c.pid.ensures)
    (subst (Own p.process.pid) (sym c.log.ensures.value)
    (reports_own ps c.loop-process.process-index p c.loop-process-test.true c.process-item.is
    c.requires.draft.own))
