-- The first unfounded event is the next one, or is among those after it.
use Rattle.std.proofs.Common.{◌||◌, not, slice_get, take, get_or, refl, sym, ◌∙◌, ap}
use Rattle.st_pair.specs.Places.{is_stamp}
use Rattle.st_pair.proofs.ForCallers.{at_get_or, blank}
use Rattle.lack_needs.specs.Places.{place_where}
use Rattle.lack_needs.specs.Unfounded.{is_unfounded}
use Rattle.lack_needs.proofs.Flawed.{here, if_false, if_true, passed}
use Rattle.lack_needs.proofs.Noted.{receive_more}
use Rattle.lack_needs.proofs.unfounded_stamps.first_in.Goals as goal

pub loop-i-init : goal.loop-i-init
loop-i-init c = record { received = refl; rest = refl }

pub is_unfounded-requires-clause-at : goal.is_unfounded-requires-clause-at
is_unfounded-requires-clause-at c =
    sym (ap (λ xs. slice_get xs c.loop-i.i) c.requires.own)
    ∙ at_get_or c.args.events.now c.loop-i.i blank c.loop-i-test.true

pub returns-then-is_unfounded : goal.returns-then-is_unfounded
returns-then-is_unfounded c =
    let streams = c.args.streams.now in
    let es = c.args.events.now in
    let i = c.loop-i.i in
    let e = get_or es i blank in
    let at = at_get_or es i blank c.loop-i-test.true in
    let is = sym (c.is_unfounded.ensures (take i es) c.loop-i.invariant.received)
    ∙ c.if-is_unfounded.true in
    sym (c.loop-i.invariant.rest
    ∙ here (place_where (is_unfounded streams) es) c.args.pid es i e at
    (if_true (is_unfounded streams (take i es) e) c.args.pid i is))

pub loop-i-preserved : goal.loop-i-preserved
loop-i-preserved c =
    let streams = c.args.streams.now in
    let es = c.args.events.now in
    let i = c.loop-i.i in
    let e = get_or es i blank in
    let at = at_get_or es i blank c.loop-i-test.true in
    let is = sym (c.is_unfounded.ensures (take i es) c.loop-i.invariant.received)
    ∙ c.if-is_unfounded.false in
    record {
      received = c.is_received-received.ensures
          ∙ ap (λ b. b || not (is_stamp e)) c.loop-i.invariant.received ∙ receive_more es i e at;
      rest = c.loop-i.invariant.rest
          ∙ passed (place_where (is_unfounded streams) es) c.args.pid es i e at
          (if_false (is_unfounded streams (take i es) e) c.args.pid i is);
    }
