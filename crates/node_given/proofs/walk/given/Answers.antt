-- One event more gets its way, and the walk then knows it.
use Rattle.std.proofs.Common.{◌≡◌, [], ◌∷◌, ◌++◌, get_or, length, take, inl, inr, arith, sym}
use Rattle.std.proofs.Common.{◌∙◌, ap, subst}
use Rattle.std.specs.List.{count_by, slice_get}
use Rattle.std.proofs.lemmas.List.{take_all}
use Rattle.std.proofs.lemmas.Option.{same_Some, slice_get-get_or as at_get_or}
use Rattle.node_machine.specs.Readings.{NeedsAtLeast}
use Rattle.node_given.specs.Walk.{IsKnown, IsWay, names_put_back}
use Rattle.node_given.proofs.Decisions.{blank, length_more, pushed_at, taken_more}
use Rattle.node_given.proofs.InRuns.{least_in_run, places_in_run, ungiven_in_run}
use Rattle.node_given.proofs.PutBacks.{counted_more, way_least}
use Rattle.node_given.proofs.walk.given.Goals as goal

pub loop-event-preserved : goal.loop-event-preserved
loop-event-preserved c =
    let es = c.args.events.now in
    let i = c.loop-event.event-index in
    let e = get_or es i blank in
    let at = at_get_or es i blank c.loop-event-test.true in
    let so_far = c.loop-event.invariant in
    let walk = c.step.new.self in
    let items = c.in_ok-push.ensures.items in
    let way = c.in_ok-step.field-0 in
    let now = c.in_ok-step.ensures.way (take i es) so_far.known in
    record {
      known = subst (λ xs. IsKnown xs walk.clocks.items walk.lift walk.last walk.takes walk.tokens)
          (sym (taken_more es i e at)) (c.in_ok-step.ensures.known (take i es) so_far.known);
      count = ap length items ∙ length_more c.loop-event.ways.items way i so_far.count;
      ways = λ j d w at_j at_w.
          elim (pushed_at c.loop-event.ways.items way j w
          (ap (λ xs. slice_get xs j) (sym items) ∙ at_w)) [
            | inl old ↦ so_far.ways j d w at_j old
            | inr new ↦
                let place : j ≡ i = new.0 ∙ so_far.count in
                let same : e ≡ d =
                same_Some e d (sym at ∙ ap (slice_get es) (sym place) ∙ at_j) in
                subst (λ n. IsWay (take n es) d w) (sym place)
                (subst (λ x. IsWay (take i es) x w) same
                (subst (IsWay (take i es) e) new.1 now))
          ];
      needs = subst (λ xs. NeedsAtLeast xs (count_by names_put_back c.push.new.self.items))
          (sym (taken_more es i e at))
          (subst (NeedsAtLeast (take i es ++ e ∷ []))
          (sym (ap (count_by names_put_back) items ∙ counted_more c.loop-event.ways.items way))
          (way_least (take i es) e way (count_by names_put_back c.loop-event.ways.items) now
          so_far.needs));
    }

pub returns-clause-least : goal.returns-clause-least
returns-clause-least c = λ p pids acts os run.
    let es = c.args.events.now in
    let n = count_by names_put_back c.loop-event.ways.items in
    let all = take_all c.loop-event.event-index es c.loop-event-test.false in
    least_in_run p es pids acts os run n
    (subst (λ xs. NeedsAtLeast xs n) all c.loop-event.invariant.needs)

pub returns-clause-places : goal.returns-clause-places
returns-clause-places c = λ i w at named p pids acts os run.
    let es = c.args.events.now in
    let count = c.loop-event.invariant.count in
    let within = c.loop-event.auto.event-index-end in
    places_in_run p es pids acts os run c.loop-event.ways.items blank (omega arith)
    c.loop-event.invariant.ways i w at named

pub returns-clause-ungiven : goal.returns-clause-ungiven
returns-clause-ungiven c = λ i at p pids acts os run own.
    let es = c.args.events.now in
    let count = c.loop-event.invariant.count in
    let within = c.loop-event.auto.event-index-end in
    let behind = c.loop-event-test.false in
    ungiven_in_run p es pids acts os run c.loop-event.ways.items blank (omega arith) (omega arith)
    c.loop-event.invariant.ways i at own
