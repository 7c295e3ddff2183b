-- All acts passed, so the counts decide.
use Rattle.std.proofs.lemmas.Option.{slice_get_within}
use Rattle.st_core.specs.Run.{pids_of}
use Rattle.st_check.proofs.Verdicts.{left_verdict, yes_verdict}
use Rattle.st_check.proofs.comparison.Comparison.into_verdict.Goals as goal

pub returns-in-Some : goal.returns-in-Some
returns-in-Some c = λ top acts s passed.
    let kept = c.args.self in
    let left = c.in-Some.ensures.found in
    left_verdict top c.args.streams.now acts s kept.counts.items kept.tags.lists kept.pairs
    c.first_left.ensures.streams.draft.rising passed left.place c.in-Some.pid left.is_there
    left.left
    (λ j q below at. left.before j q below at)

pub returns-in-None : goal.returns-in-None
returns-in-None c = λ top acts s passed.
    let kept = c.args.self in
    yes_verdict top c.args.streams.now acts s kept.counts.items kept.tags.lists kept.pairs
    c.first_left.ensures.streams.draft.rising passed
    (λ j q at. c.in-None.ensures.none j q (slice_get_within (pids_of c.args.streams.now) j q at) at)
