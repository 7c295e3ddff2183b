-- A receive becomes the last one, and has no back; the back of a send or print is found among the
-- receives before it.
use Rattle.std.proofs.Common.{◌≡◌, ◌+◌, ◌∙◌, ap, arith, cond, get_or, None, sym, subst, true, Bool}
use Rattle.std.proofs.lemmas.Grind.{common_steps}
use Rattle.st_pair.specs.Places.{is_stamp}
use Rattle.st_chain.specs.Causes.{back_of, backs_from, received_before}
use Rattle.st_chain.specs.Kept.{ArePassed}
use Rattle.st_pair.proofs.ForCallers.{at_get_or, blank, receive_unstamped}
use Rattle.st_chain.proofs.Backs.{backs_passed}
use Rattle.st_chain.proofs.PassedReceives.{receive_passed, stamp_passed}
use Rattle.st_chain.proofs.receives.backs.Goals.{in-Receive+in_ok-push-in-Receive}
use Rattle.st_chain.proofs.receives.backs.Goals.{in-Send+in_ok-find-in-Send+in_ok-push-in-Send}
use Rattle.st_chain.proofs.receives.backs.Goals as goal

pub loop-i-preserved : goal.loop-i-preserved
loop-i-preserved c =
    let es = c.args.events.now in
    let i = c.loop-i.i in
    let e = get_or es i blank in
    let at = at_get_or es i blank c.loop-i-test.true in
    let all = backs_from es 0 es in
    elim c.match-event.branch [
      | in-Receive+in_ok-push-in-Receive w ↦
          let receives = receive_unstamped e w.in-Receive.is in
          let none : None ≡ back_of es i e =
          sym (ap (λ (b : Bool). cond b (received_before es e.serial.prev i) None) receives) in
          record {
            passed = subst (ArePassed es (i + 1)) (sym w.passed-is)
                (receive_passed es i e at c.loop-i.passed c.loop-i.invariant.passed receives);
            found = rw (w.found-is, w.in_ok-push-in-Receive.ensures.items)
                (backs_passed es i e c.loop-i.found.items all None at none
                c.loop-i.invariant.found);
          }
      | in-Send+in_ok-find-in-Send+in_ok-push-in-Send w ↦
          let stamps : is_stamp e ≡ true = grind (arith, common_steps, w.in-Send.is) in
          let read = w.in_ok-find-in-Send.ensures.found
          ∙ sym (ap (λ (b : Bool). cond b (received_before es e.serial.prev i) None) stamps) in
          record {
            passed = subst (ArePassed es (i + 1)) (sym w.passed-is)
                (stamp_passed es i e at _ w.in_ok-find-in-Send.ensures.passed stamps);
            found = rw (w.found-is, w.in_ok-push-in-Send.ensures.items)
                (backs_passed es i e c.loop-i.found.items all _ at read c.loop-i.invariant.found);
          }
    ]
