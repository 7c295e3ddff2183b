-- Either the next send or print has no greater count than the last one, or those so far rise.
use Rattle.std.proofs.Common.{◌+◌, ℕ, true, get_or, refl, sym, ◌∙◌, ap, subst, arith}
use Rattle.std.proofs.lemmas.Bool.{false≢true}
use Rattle.std.proofs.lemmas.Option.{none-some, same_Some, slice_get_within}
use Rattle.st_pair.proofs.ForCallers.{at_get_or, blank}
use Rattle.lack_pieces.specs.Firsts.{HoldsOfRank}
use Rattle.lack_pieces.specs.Pieces.{Piece}
use Rattle.lack_pieces.proofs.Walks.{above_last, falls_at, first_own, none_falls, not_rising}
use Rattle.lack_pieces.proofs.Walks.{rise_more, stamp_here, stamp_kept, IsLastStamp}
use Rattle.lack_pieces.proofs.own_reasons.find_not_rising.Goals as goal

pub returns-then-event-count-clause-first : goal.returns-then-event-count-clause-first
returns-then-event-count-clause-first c = λ top receipts.
    let es = c.args.events.now in
    let i = c.loop-i.i in
    let e = get_or es i blank in
    let piece : Piece = record { pid = c.args.pid; events = es; receipts = receipts } in
    let found : ℕ × ℕ = (c.in-Some.index, c.in-Some.count) in
    first_own (HoldsOfRank top piece 1) c.args.pid _ (record {
      event = e;
      holds = falls_at top piece i e found (at_get_or es i blank c.loop-i-test.true)
          (sym c.is_stamp.ensures ∙ c.if-is_stamp.true)
          (subst (IsLastStamp es i) c.in-Some.is c.loop-i.invariant.last) c.if-event-count.true;
      of_rank = refl;
    }) (λ other h. (not_rising top piece other h).1.0.own) refl
    (none_falls top piece i c.loop-i.invariant.rise)

pub loop-i-preserved : goal.loop-i-preserved
loop-i-preserved c =
    let es = c.args.events.now in
    let i = c.loop-i.i in
    let e = get_or es i blank in
    let at = at_get_or es i blank c.loop-i-test.true in
    record {
      rise = rise_more true es i e at c.loop-i.invariant.rise (λ stamps.
          above_last es i e at c.loop-i.last c.loop-i.invariant.last c.loop-i.invariant.rise
          (λ found same. elim c.if-is_stamp.branch [
            | goal.then-is_stamp w ↦ elim w.match-last.branch [
              | goal.in-Some+else-event-count v ↦
                  let pair = same_Some (v.in-Some.index, v.in-Some.count) found
                  (sym v.in-Some.is ∙ same) in
                  let count = ap (λ (x : ℕ × ℕ). x.1) pair in
                  omega (arith, count, v.if-event-count.false)
              | goal.in_default v ↦ absurd (none-some found (sym v.in_default.is ∙ same))
            ]
            | goal.else-is_stamp w ↦ absurd (false≢true (sym w.if-is_stamp.false
                ∙ (c.is_stamp.ensures ∙ stamps)))
          ]));
      last = elim c.if-is_stamp.branch [
        | goal.then-is_stamp w ↦ subst (IsLastStamp es (i + 1)) (sym w.last-is)
            (stamp_here es i e at (sym c.is_stamp.ensures ∙ w.if-is_stamp.true))
        | goal.else-is_stamp w ↦ subst (IsLastStamp es (i + 1)) (sym w.last-is)
            (stamp_kept es i e at c.loop-i.last (sym c.is_stamp.ensures ∙ w.if-is_stamp.false)
            c.loop-i.invariant.last)
      ];
    }

pub returns-clause-first : goal.returns-clause-first
returns-clause-first c = λ top receipts other h.
    let es = c.args.events.now in
    let piece : Piece = record { pid = c.args.pid; events = es; receipts = receipts } in
    let within = slice_get_within es other.index h.event (not_rising top piece other h).1.0.at in
    none_falls top piece c.loop-i.i c.loop-i.invariant.rise other h (omega (arith, within))

pub returns-clause-rise : goal.returns-clause-rise
returns-clause-rise c = λ j k f e less at there first second.
    let within = slice_get_within c.args.events.now k e there in
    c.loop-i.invariant.rise j k f e less (omega (arith, within)) at there first second
