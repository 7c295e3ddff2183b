-- A change of homes keeps the processes of the completion, so the run is over them.
use Rattle.std.proofs.Common.{IfSome, ◌∙◌, ap, subst}
use Rattle.st_core.specs.Run.{pids_of}
use Rattle.lack_needs.specs.Completions.{wholes_with}
use Rattle.lack_acts.specs.Acts.{RunsWithin}
use Rattle.lack_acts.specs.Told.{TellsAs}
use Rattle.lack_acts.proofs.Telling.{tells_pids}
use Rattle.lack_acts.proofs.acts.lean_acts.Goals as goal

pub returns-in_ok-acts-in-None : goal.returns-in_ok-acts-in-None
returns-in_ok-acts-in-None g c =
    subst (λ ss. RunsWithin g.row.TOP c.args.most (pids_of ss) c.in_ok-acts-in-None.acts)
    c.streams-streams.ensures c.in_ok-acts-in-None.ensures

pub returns-in_ok-acts-in-Some : goal.returns-in_ok-acts-in-Some
returns-in_ok-acts-in-Some g c =
    let streams = c.streams-streams.result.now in
    let marks = c.marks-marks.result.now in
    let tells = subst (λ o. IfSome o (TellsAs (wholes_with streams marks))) c.in-Some.is
    c.in-Ok.ensures in
    subst (λ ps. RunsWithin g.row.TOP c.args.most ps c.in_ok-acts-in-Some.acts)
    (tells_pids streams marks c.in-Some.more tells ∙ ap pids_of c.streams-streams.ensures)
    c.in_ok-acts-in-Some.ensures
