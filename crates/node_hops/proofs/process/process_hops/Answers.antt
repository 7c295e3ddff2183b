-- Each event adds its hop, which is that of the definition, and whose claim is true.
use Rattle.std.proofs.Common.{◌≡◌, ◌≤◌, ◌+◌, ◌-◌, ◌++◌, ◌∙◌, ap, sym, subst, arith, get_or, length}
use Rattle.std.proofs.Common.{List, take, append-nil}
use Rattle.std.specs.List.{slice_get}
use Rattle.std.proofs.lemmas.Option.{same_Some}
use Rattle.st_core.specs.Run.{Stream}
use Rattle.st_core.specs.Streams.{IsStreams, events_of}
use Rattle.st_core.specs.declared.types.Event.{Event}
use Rattle.st_pair.proofs.ForCallers.{at_get_or, blank}
use Rattle.node_streams.specs.Messages.{each_from, taken_send}
use Rattle.node_streams.proofs.ForCallers.{each_at, each_step, length_taken, none_left, taken_among}
use Rattle.node_hops.specs.Claims.{IsTrueOnNode}
use Rattle.node_hops.specs.Events.{row_first}
use Rattle.node_hops.specs.Hops.{node_hop_of, node_hops_of}
use Rattle.node_hops.proofs.Claims.{hop_true}
use Rattle.node_hops.proofs.Starts.{start_within}
use Rattle.node_hops.proofs.process.process_hops.Goals as goal

pub hop_from-requires-clause-taken : goal.hop_from-requires-clause-taken
hop_from-requires-clause-taken c =
    let streams = c.args.sends.now in
    let es = c.events-events.result.now in
    let k = c.loop-index.index in
    let e = get_or es k blank in
    let at = at_get_or es k blank c.loop-index-test.true in
    let own = c.events-events.ensures.value
    ∙ ap (λ (s : List Stream). events_of s c.args.pid) c.streams.ensures in
    subst (λ (xs : List Event). c.partner_at-send.result ≡ taken_send streams (take k xs) e) own
    (taken_among streams es k e _ c.partner_at-send.result
    (c.deref.ensures.value ∙ c.in_ok-taken.ensures) at c.partner_at-send.ensures)

pub hop_from-requires-clause-row : goal.hop_from-requires-clause-row
hop_from-requires-clause-row c =
    let es = c.events-events.result.now in
    let k = c.loop-index.index in
    let e = get_or es k blank in
    let at = at_get_or es k blank c.loop-index-test.true in
    let own = c.events-events.ensures.value
    ∙ ap (λ (s : List Stream). events_of s c.args.pid) c.streams.ensures in
    c.next_start-start.ensures e at
    ∙ ap (λ (xs : List Event). row_first e.serial.prev xs k) own

pub hop_from-requires-clause-within : goal.hop_from-requires-clause-within
hop_from-requires-clause-within c =
    let es = c.events-events.result.now in
    let k = c.loop-index.index in
    let e = get_or es k blank in
    let at = at_get_or es k blank c.loop-index-test.true in
    let own = c.events-events.ensures.value
    ∙ ap (λ (s : List Stream). events_of s c.args.pid) c.streams.ensures in
    subst (λ (xs : List Event). c.next_start-start.result ≤ length xs) own
    (start_within es k e c.next_start-start.result at (c.next_start-start.ensures e at))

pub loop-index-preserved : goal.loop-index-preserved
loop-index-preserved c =
    let streams = c.args.sends.now in
    let p = c.args.pid in
    let es = c.events-events.result.now in
    let k = c.loop-index.index in
    let e = get_or es k blank in
    let at = at_get_or es k blank c.loop-index-test.true in
    let number : k + 1 - 1 ≡ k = omega arith in
    record {
      all = each_step (λ before x. node_hop_of streams p (length before) x) es k e
          c.loop-index.found.items c.push.new.self.items (node_hops_of streams p)
          c.hop_from.result at c.loop-index.invariant.all c.in_ok-push.ensures.items
          (c.hop_from.ensures
          ∙ ap (λ n. node_hop_of streams p n e) (sym (length_taken es k e at)));
      last = λ d some there.
          c.next_start-start.ensures d (ap (slice_get es) (sym number) ∙ there)
          ∙ ap (row_first d.serial.prev es) (sym number);
    }

pub returns-clause-truth : goal.returns-clause-truth
returns-clause-truth c = λ i e h at got.
    let streams = c.args.sends.now in
    let p = c.args.pid in
    let es = c.events-events.result.now in
    let k = c.loop-index.index in
    let items = c.loop-index.found.items in
    let all = sym (append-nil items)
    ∙ ap (λ (xs : List Event). items
    ++ each_from (λ before x. node_hop_of streams p (length before) x) (take k es) xs)
    (sym (none_left es k c.loop-index-test.false))
    ∙ c.loop-index.invariant.all in
    let is = same_Some h _ (sym got ∙ ap (λ xs. slice_get xs i) all
    ∙ each_at (λ before x. node_hop_of streams p (length before) x) (events_of streams p) i e at)
    ∙ ap (λ n. node_hop_of streams p n e) (length_taken (events_of streams p) i e at) in
    subst (IsTrueOnNode streams p i e) (sym is)
    (hop_true streams p i e (subst IsStreams c.streams.ensures c.events-events.ensures.streams) at)
