-- The record is the run of the acts so far, over the pids that the draft lists.
use Rattle.std.proofs.Common.{◌≡◌, ◌+◌, None, is_some, take, subst, sym, ◌∙◌, ap, arith}
use Rattle.std.proofs.lemmas.Bool.{MatchBool-at_true, MatchBool-at_false}
use Rattle.std.proofs.lemmas.Option.{none-some}
use Rattle.st_core.specs.Run.{run}
use Rattle.st_core.specs.Streams.{unlisted}
use Rattle.st_check.specs.Recorded.{IsReplayedTo}
use Rattle.st_check.proofs.Records.{recorded_pids, recorded_rises, run_listed}
use Rattle.st_check.proofs.recording.record_run.Goals as goal

pub advance-requires : goal.advance-requires
advance-requires g c =
    let r = c.loop-number.recording in
    let same = recorded_pids g.row.TOP c.args.pids.now _ c.args.keeps_replies
    r.world r.streams r.replies c.loop-number.invariant in (
      omega arith,
      (
        c.loop-number-test.true,
        subst
            (λ ps. IsReplayedTo g.row.TOP ps (take c.loop-number.number c.args.acts.now)
            c.args.keeps_replies r.world r.streams r.replies)
            same
            c.loop-number.invariant,
      ),
    )

pub returns-then-not-has_step-clause-replay : goal.returns-then-not-has_step-clause-replay
returns-then-not-has_step-clause-replay g c =
    let r = c.loop-number.recording in
    let same = recorded_pids g.row.TOP c.args.pids.now _ c.args.keeps_replies
    r.world r.streams r.replies c.loop-number.invariant in
    record {
      within = c.loop-number-test.true;
      before = ap is_some c.loop-number.invariant.runs;
      none = subst (λ ps. run g.row.TOP ps (take (c.loop-number.number + 1) c.args.acts.now) ≡ None)
          (sym same)
          (MatchBool-at_false _ _ c.if-not-has_step.true c.in-Ok.ensures);
    }

pub loop-number-preserved : goal.loop-number-preserved
loop-number-preserved g c =
    let r = c.loop-number.recording in
    let new = c.advance.new.self in
    let same = recorded_pids g.row.TOP c.args.pids.now _ c.args.keeps_replies
    r.world r.streams r.replies c.loop-number.invariant in
    subst (λ ps. IsReplayedTo g.row.TOP ps (take (c.loop-number.number + 1) c.args.acts.now)
    c.args.keeps_replies new.world new.streams
    new.replies) (sym same) (MatchBool-at_true _ _ c.if-not-has_step.false c.in-Ok.ensures)

pub unreachable-requires : goal.unreachable-requires
unreachable-requires g c =
    let p = c.loop-number.invariant in
    none-some _ (sym (run_listed g.row.TOP c.args.pids.now _ p.outcomes p.runs)
    ∙ ap unlisted (sym p.are_streams)
    ∙ c.in-Err.ensures.place)

pub returns-clause-rises : goal.returns-clause-rises
returns-clause-rises g c =
    let r = c.loop-number.recording in
    recorded_rises g.row.TOP c.args.pids.now _ c.args.keeps_replies
    r.world r.streams r.replies c.loop-number.invariant
    c.in-Ok-close.streams c.in-Ok-close.ensures.ok
