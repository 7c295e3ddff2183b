-- After a send or print, that event is the last one.
use Rattle.std.proofs.Common.{arith}
use Rattle.std.proofs.lemmas.Grind.{common_steps}
use Rattle.std.proofs.lemmas.Option.{slice_get-get_or}
use Rattle.st_pair.proofs.Stamps.{blank}
use Rattle.st_pair.proofs.rules.Rule.first_fault_in.Goals as goal

pub loop-i-preserved : goal.loop-i-preserved
loop-i-preserved c =
    let at = slice_get-get_or c.events-events.result.now c.loop-i.i blank c.loop-i-test.true in
    record {
      rest = grind (arith, common_steps);
      last =
          grind (arith, common_steps, at, c.match-event.branch);
    }
