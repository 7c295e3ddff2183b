-- Each stream adds its links after those of the streams before it.
use Rattle.std.proofs.Common.{◌∙◌}
use Rattle.st_pair.specs.Tables.{links_back}
use Rattle.st_pair.proofs.StreamTables.{gathered}
use Rattle.st_pair.proofs.links.Sources.of.Goals as goal

pub loop-pid-preserved : goal.loop-pid-preserved
loop-pid-preserved c =
    let streams = c.args.streams.now in
    let rising = c.pids-pid-items.ensures.streams.draft.rising in
    let are = c.pids-pid-items.ensures.value in
    let events = c.events-events.ensures.value in
    let within = c.loop-pid-test.true in
    record {
      links = c.in_ok-push.ensures.items ∙ gathered (links_back streams) streams _ _ _ _ _ _ rising
          are within events
          c.in_ok-of_events.ensures.links c.loop-pid.invariant.links;
      sent = c.in_ok-of_events.ensures.sent ∙ c.loop-pid.invariant.sent;
    }
