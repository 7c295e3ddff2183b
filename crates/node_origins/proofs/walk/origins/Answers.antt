-- Each event gets its entry, and in a run a stamp's origin is one that is allowed.
use Rattle.std.proofs.Common.{◌≡◌, ◌<◌, get_or, length, inl, inr, arith, sym, ◌∙◌, ap, subst, Some}
use Rattle.std.specs.List.{slice_get}
use Rattle.std.proofs.lemmas.Option.{none-some, same_Some, slice_get-get_or as at_get_or}
use Rattle.node_given.proofs.ForCallers.{length_more, pushed_at, blank}
use Rattle.node_origins.specs.Summary.{IsEntry}
use Rattle.node_origins.proofs.Results.{certain_at, impossible_at, one_at, receive_at, several_at}
use Rattle.node_origins.proofs.Results.{unknown_at}
use Rattle.node_origins.proofs.walk.origins.Goals as goal

pub loop-index-init : goal.loop-index-init
loop-index-init c =
    let items = c.in_ok-found.ensures.items in
    record {
      count = ap length items;
      entries = λ k e o at_e at_o.
          absurd (none-some o (sym (ap (λ xs. slice_get xs k) items) ∙ at_o));
      successors = c.new-successors.ensures c.args.events.now;
    }

pub event_origins-origins-requires : goal.event_origins-origins-requires
event_origins-origins-requires c =
    let es = c.args.events.now in
    let i = c.loop-index.index in
    let so_far = c.loop-index.invariant in
    let below = c.loop-index-test.true in
    let long = c.in_ok-ways.ensures.each in
    let within : c.loop-index.index < length c.in_ok-ways.ways.items = omega arith in
    let at = at_get_or es i blank below in
    let found = c.deref.ensures.value in
    let same = ap length found in
    let count = so_far.count in
    let w = c.index-way.result.now in
    let at_way = at_get_or c.in_ok-ways.ways.items i w within ∙ ap Some (sym c.index-way.ensures) in
    record {
      fit = c.requires;
      at = at;
      given = c.in_ok-ways.ensures.ways i (get_or es i blank) w at at_way;
      all = omega arith;
      entries = λ k e o at_e at_o.
          so_far.entries k e o at_e (ap (λ xs. slice_get xs k) (sym found) ∙ at_o);
      firsts = c.in_ok-firsts.ensures;
      successors = so_far.successors;
    }

pub loop-index-preserved : goal.loop-index-preserved
loop-index-preserved c =
    let es = c.args.events.now in
    let i = c.loop-index.index in
    let e = get_or es i blank in
    let at = at_get_or es i blank c.loop-index-test.true in
    let so_far = c.loop-index.invariant in
    let items = c.in_ok-push.ensures.items in
    let o = c.event_origins-origins.result in
    let now = c.event_origins-origins.ensures in
    record {
      count = ap length items ∙ length_more c.loop-index.found.items o i so_far.count;
      entries = λ k d q at_d at_q.
          elim (pushed_at c.loop-index.found.items o k q
          (ap (λ xs. slice_get xs k) (sym items) ∙ at_q)) [
            | inl old ↦ so_far.entries k d q at_d old
            | inr new ↦
                let place : k ≡ i = new.0 ∙ so_far.count in
                let same : e ≡ d =
                same_Some e d (sym at ∙ ap (slice_get es) (sym place) ∙ at_d) in
                subst (λ n. IsEntry es n d q) (sym place)
                (subst (λ x. IsEntry es i x q) same (subst (IsEntry es i e) new.1 now))
          ];
      successors = c.in_ok-note.ensures es at now so_far.successors;
    }

pub returns-clause-receives : goal.returns-clause-receives
returns-clause-receives c = λ i e at.
    receive_at c.args.events.now c.loop-index.found.items c.loop-index.index
    c.loop-index.invariant.count c.loop-index-test.false c.loop-index.auto.index-end
    c.loop-index.invariant.entries i e at

pub returns-clause-unknown : goal.returns-clause-unknown
returns-clause-unknown c = λ i e at.
    unknown_at c.args.events.now c.loop-index.found.items c.loop-index.index
    c.loop-index.invariant.count c.loop-index-test.false c.loop-index.auto.index-end
    c.loop-index.invariant.entries i e at

pub returns-clause-one : goal.returns-clause-one
returns-clause-one c = λ i e at.
    one_at c.args.events.now c.loop-index.found.items c.loop-index.index
    c.loop-index.invariant.count c.loop-index-test.false c.loop-index.auto.index-end
    c.loop-index.invariant.entries i e at

pub returns-clause-several : goal.returns-clause-several
returns-clause-several c = λ i.
    several_at c.args.events.now c.loop-index.found.items c.loop-index.index
    c.loop-index.invariant.count c.loop-index-test.false c.loop-index.auto.index-end
    c.loop-index.invariant.entries i

pub returns-clause-certain : goal.returns-clause-certain
returns-clause-certain c = λ p pids acts os hs run i.
    certain_at c.args.events.now c.loop-index.found.items c.loop-index.index
    c.loop-index.invariant.count c.loop-index-test.false c.loop-index.auto.index-end
    c.loop-index.invariant.entries p pids acts os hs run i

pub returns-clause-impossible : goal.returns-clause-impossible
returns-clause-impossible c = λ i is p pids acts os hs run.
    impossible_at c.args.events.now c.loop-index.found.items c.loop-index.index
    c.loop-index.invariant.count c.loop-index-test.false c.loop-index.auto.index-end
    c.loop-index.invariant.entries p pids acts os hs run i is
