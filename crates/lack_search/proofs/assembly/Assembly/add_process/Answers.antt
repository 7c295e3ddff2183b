-- The invented sends before the next event tell nothing, and the event is told if it was reported.
use Rattle.lack_search.specs.MergedEvents.{told_in}
use Rattle.lack_search.proofs.Telling.{told_step}
use Rattle.lack_search.proofs.assembly.Assembly.add_process.Goals as goal

pub loop-next-preserved : goal.loop-next-preserved
loop-next-preserved c =
    told_step c.args.pid c.args.events.reported.now c.loop-next.events.reported.now
    c.take_next.new.self.reported.now (told_in c.in-Some.next) c.args.self.now c.loop-next.self
    c.add_sends.new.self c.add.new.self c.loop-next.invariant c.in_ok-left.ensures
    c.in_ok-add.ensures c.in-Some.ensures.some
