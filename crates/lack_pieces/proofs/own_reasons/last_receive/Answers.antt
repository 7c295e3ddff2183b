-- An event is a receive with at least the count, or the last one so far stays.
use Rattle.std.proofs.Common.{◌+◌, get_or, sym, ◌∙◌, subst, arith}
use Rattle.std.proofs.lemmas.Bool.{false≢true}
use Rattle.st_pair.proofs.ForCallers.{at_get_or, blank}
use Rattle.lack_pieces.specs.Firsts.{IsLastReceive}
use Rattle.lack_pieces.proofs.Walks.{receive_here, receive_kept}
use Rattle.lack_pieces.proofs.own_reasons.last_receive.Goals as goal

pub loop-i-preserved : goal.loop-i-preserved
loop-i-preserved c =
    let es = c.args.events.now in
    let i = c.loop-i.i in
    let e = get_or es i blank in
    let n = c.args.count in
    let at = at_get_or es i blank (omega arith) in
    elim c.if-not-is_stamp.branch [
      | goal.then-not-is_stamp+then-count-events w ↦
          subst (IsLastReceive es (i + 1) n) (sym w.last-is)
          (receive_here es i e at n (sym c.is_stamp.ensures ∙ w.if-not-is_stamp.true)
          w.if-count-events.true)
      | goal.else-not-is_stamp w ↦ subst (IsLastReceive es (i + 1) n) (sym w.last-is)
          (receive_kept es i e at n c.loop-i.last (λ receives. elim w.else-not-is_stamp.branch [
            | goal.else-not-is_stamp-via-then-not-is_stamp+else-count-events v ↦
                v.if-count-events.false
            | goal.else-not-is_stamp-via-else-not-is_stamp v ↦ absurd (false≢true (sym receives
                ∙ (sym c.is_stamp.ensures ∙ v.if-not-is_stamp.false)))
          ]) c.loop-i.invariant)
    ]
