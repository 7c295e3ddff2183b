-- Its process's number grows by one.
use Rattle.std.proofs.Common.{◌+◌, ◌∙◌, ap}
use Rattle.node_streams.proofs.Turns.{gone_at, if_ok}
use Rattle.node_streams.proofs.walk.Walk.go.Goals as goal

pub returns-in-Send : goal.returns-in-Send
returns-in-Send c = λ order p at here.
    let more = c.in-Some.ensures.1 ∙ ap (λ n. n + 1) c.done_at.ensures in
    if_ok c.wake.result
    (gone_at c.args.streams.now order c.args.self.now c.wake.new.self c.args.place c.in-Some.more p
    c.requires.draft.rising at here more (ap (λ d. d.items) c.wake.ensures ∙ c.put.ensures))

pub returns-in-Print : goal.returns-in-Print
returns-in-Print c = λ order p at here.
    let more = c.in-Some.ensures.1 ∙ ap (λ n. n + 1) c.done_at.ensures in
    gone_at c.args.streams.now order c.args.self.now _ c.args.place c.in-Some.more p
    c.requires.draft.rising at here more c.put.ensures
