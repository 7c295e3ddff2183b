-- The process is last, so each event goes to the end of the draft.
use Rattle.std.proofs.Common.{rules, ◌∙◌, ap}
use Rattle.st_core.specs.Streams.{lists}
use Rattle.lack_needs.proofs.Ranking.{event_more, lists_last}
use Rattle.lack_needs.proofs.silent.add_process.Goals as goal

pub add_own-requires-clause-listed : goal.add_own-requires-clause-listed
add_own-requires-clause-listed c =
    ap (λ xs. lists xs c.args.pid) c.loop-event.invariant ∙ lists_last _ c.args.pid _

pub loop-event-preserved : goal.loop-event-preserved
loop-event-preserved c =
    event_more c.args.draft.now c.loop-event.draft c.add_own.new.draft c.args.pid c.args.events.now
    c.loop-event.event-index c.requires.last c.loop-event-test.true c.loop-event.invariant
    (search rules)
