-- Sharing climbs keeps the processes, so the run is over them.
use Rattle.std.proofs.Common.{IfSome, subst}
use Rattle.lack_needs.specs.Completions.{wholes_with}
use Rattle.lack_acts.specs.Acts.{RunsWithin}
use Rattle.lack_acts.specs.Told.{TellsAs}
use Rattle.lack_acts.proofs.Telling.{tells_pids}
use Rattle.lack_acts.proofs.acts.shared_acts.Goals as goal

pub returns-in_ok-acts-in-Some : goal.returns-in_ok-acts-in-Some
returns-in_ok-acts-in-Some g c =
    let streams = c.args.streams.now in
    let marks = c.args.marks.now in
    let tells = subst (λ o. IfSome o (TellsAs (wholes_with streams marks))) c.in-Some.is
    c.in-Ok.ensures in
    subst (λ ps. RunsWithin g.row.TOP c.args.most ps c.in_ok-acts-in-Some.acts)
    (tells_pids streams marks c.in-Some.more tells) c.in_ok-acts-in-Some.ensures
