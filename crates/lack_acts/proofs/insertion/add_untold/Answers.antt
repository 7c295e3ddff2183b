-- One more untold event tells nothing.
use Rattle.std.proofs.Common.{refl, ◌∙◌, arith}
use Rattle.lack_acts.proofs.Telling.{untold_pushed}
use Rattle.lack_acts.proofs.insertion.add_untold.Goals as goal

pub loop-place-preserved : goal.loop-place-preserved
loop-place-preserved c =
    let within = c.loop-place-test.true in
    let long = c.in_ok-push.ensures.len in
    let start = c.loop-place.auto.place in
    let was = c.loop-place.invariant.count in
    record {
      told = untold_pushed c.loop-place.whole.items _ _ c.in_ok-push.ensures.items refl
          ∙ c.loop-place.invariant.told;
      count = omega (arith, within, long, start, was);
      bounded = omega (arith, within);
    }

pub returns-clause-count : goal.returns-clause-count
returns-clause-count c =
    let past = c.loop-place-test.false in
    let start = c.loop-place.auto.place in
    let bounded = c.loop-place.invariant.bounded in
    let was = c.loop-place.invariant.count in
    omega (arith, past, start, bounded, was)
