-- Each process that is added tells what it told, and in the end all were added.
use Rattle.std.proofs.Common.{◌∙◌, ap}
use Rattle.std.proofs.lemmas.Option.{IfSome_then}
use Rattle.st_plan.specs.Marks.{told_streams}
use Rattle.lack_acts.specs.Told.{told_of}
use Rattle.lack_acts.proofs.Telling.{all_told, process_told}
use Rattle.lack_acts.proofs.strays.Strays.keep.Goals as goal

pub loop-process-preserved : goal.loop-process-preserved
loop-process-preserved c =
    process_told c.args.streams.now c.args.marks.now _ c.loop-process.process _ _ _ _ _ _ _ _
    c.pids-pid-items.ensures.streams.draft.rising c.pids-pid-items.ensures.value
    c.loop-process-test.true c.events-events.ensures.value c.marks_at-own.ensures
    (ap told_of c.as_slice-whole.ensures.value ∙ c.in_ok-stay.ensures)
    c.in_ok-add.ensures.streams c.in_ok-add.ensures.marks c.loop-process.invariant

pub returns : goal.returns
returns c = IfSome_then c.close.result c.close.ensures (λ closed is. ap told_streams is
    ∙ all_told c.args.streams.now c.args.marks.now _ c.loop-process.process _ _
    c.pids-pid-items.ensures.value c.loop-process-test.false c.loop-process.invariant)
