-- The claim of a stamp's hop holds by the events before its row, and that of a receive's hop by
-- the sends of its content.
use Rattle.std.proofs.Common.{◌≡◌, ◌≢◌, ℕ, ◌<◌, ◌≤◌, ◌==◌, ◌&&◌, zero, suc, true, false, cond}
use Rattle.std.proofs.Common.{get_or, List, map, take, Option, Some, None, refl, sym, ◌∙◌, ap}
use Rattle.std.proofs.Common.{arith, subst, eqb-true, eq-eqb}
use Rattle.std.specs.Prelude.{not}
use Rattle.std.specs.List.{slice_get}
use Rattle.std.proofs.lemmas.Bool.{false≢true}
use Rattle.std.proofs.lemmas.Bool.Decides.{nat_tests}
use Rattle.std.proofs.lemmas.Option.{slice_get_within}
use Rattle.st_core.specs.declared.types.Pid.{Pid}
use Rattle.st_core.specs.declared.types.Label.{Label}
use Rattle.st_core.specs.declared.types.Kind.TheVariants as kind
use Rattle.st_core.specs.declared.types.Event.{Event}
use Rattle.st_core.specs.Run.{Stream, stream}
use Rattle.st_core.specs.Step.{Outcome}
use Rattle.st_core.specs.Streams.{events_of, IsStreams}
use Rattle.st_core.proofs.ForCallers.{event_reported}
use Rattle.st_pair.specs.Places.{event_at, is_stamp}
use Rattle.st_pair.proofs.ForCallers.{at_get_or, receive_kind, stamp_not_received}
use Rattle.node_machine.specs.Node.{machine_act, NodeAct, node_run}
use Rattle.node_machine.specs.Premises.{NoNodeReset}
use Rattle.node_streams.specs.Messages.{send_of}
use Rattle.node_streams.proofs.ForCallers.{listed_events}
use Rattle.node_hops.specs.declared.hop.NodeHop.{NodeHop}
use Rattle.node_hops.specs.declared.hop.NodeHop.TheVariants as hop
use Rattle.node_hops.specs.Claims.{HopClaims, PremisesHold, IsTrueOnNode, NodeReports}
use Rattle.node_hops.specs.Events.{is_in_row, is_take, take_before, row_first}
use Rattle.node_hops.specs.Hops.{events_before, node_hop_by, node_hop_by_label, node_hop_of}
use Rattle.node_hops.specs.Hops.{hop_of_stamp, node_hop_to_send, label_there_or, node_premises_of}
use Rattle.node_hops.proofs.Messages.{listed_at, sent_true, unsent_true}
use Rattle.node_hops.proofs.RowLemmas.{not_received, received_is, row_between, row_start_within}
use Rattle.node_hops.proofs.RowLemmas.{row_stopped}
use Rattle.node_hops.proofs.Stamps.{kind_receive, begins, begins_after, follows_it, moved_first}
use Rattle.node_hops.proofs.Stamps.{moved_later}

same_label : (k l : Label) → (k.0 == l.0) ≡ true → k ≡ l
same_label k l h = let number = eqb-true k.0 l.0 h in λ i. record { 0 = number i }

other_label : (k l : Label) → (k.0 == l.0) ≡ false → ¬ (k ≡ l)
other_label k l h same = false≢true (sym h ∙ eq-eqb k.0 l.0 (ap (λ (x : Label). x.0) same))

-- an event that is neither in the row nor a receive of the count leaves another last
differs : (d : Event) (prev : ℕ) → is_in_row prev d ≡ false
    → (is_take d && d.serial.this == prev) ≡ false
    → (cond (is_take d) d.serial.this d.serial.prev == prev) ≡ false
differs d prev = elim (is_take d) as (λ b.
    (not b && d.serial.prev == prev) ≡ false
    → (b && d.serial.this == prev) ≡ false
    → (cond b d.serial.this d.serial.prev == prev) ≡ false) [
      | true ↦ λ _ is. is
      | false ↦ λ is _. is
    ]

not_zero : (j : ℕ) → (suc j == 0) ≡ false
not_zero j = grind (arith, nat_tests)

earlier_event : (xs : List Event) (x n : ℕ) (e : Event) → slice_get xs n ≡ Some e → x < n
    → (d : Event) × (slice_get xs x ≡ Some d)
earlier_event xs x n e at less =
    let long = slice_get_within xs n e at in
    (get_or xs x e, at_get_or xs x e (omega arith))

module _ (pids : List Pid) (acts : List NodeAct) (os : List Outcome)
    (h : node_run pids acts ≡ Some os) (plain : NoNodeReset acts) (p : Pid) (i n : ℕ) (e : Event)
    (r : NodeReports acts os p i e n) (other : e.kind ≢ kind.Receive)
    (at : slice_get (stream (map machine_act acts) os p) i ≡ Some e) where
  abbrev es : List Event
  es = stream (map machine_act acts) os p

  abbrev IsClaimed : NodeHop → Type 0
  IsClaimed back = PremisesHold pids acts os p (events_before back) e n (node_premises_of back)
      → HopClaims pids acts os p e n back

  -- the claim, if the receive at j is directly before the row
  by_label : (j : ℕ) → take_before e.serial.prev es (row_first e.serial.prev es i) ≡ Some j
      → IsClaimed (node_hop_by_label j (label_there_or es j e.label) e.label)
  by_label j is =
      let prev = e.serial.prev in
      let x = received_is prev es (row_first prev es i) j is in
      let d = x.event in
      let q = event_reported (map machine_act acts) os p j d x.at in
      let receives = kind_receive d.kind x.receive in
      let starts = x.index in
      let within = row_start_within prev es i in
      let row = subst (λ k. (y : ℕ) → k ≤ y → y < i → (f : Event) × (slice_get es y ≡ Some f)
      × (is_in_row prev f ≡ true)) starts (row_between prev es i) in
      let label : label_there_or es j e.label ≡ d.label =
      ap (λ (o : Option Event). elim o as (λ _. Label) [ None ↦ e.label | Some y ↦ y.label ]) x.at
      in
      subst (λ m. IsClaimed (node_hop_by_label j m e.label)) (sym label)
      ((elim (d.label.0 == e.label.0) as (λ b. (d.label.0 == e.label.0) ≡ b
      → IsClaimed (cond b (hop.After j) (hop.OtherLabel j d.label))) [
        | true ↦ λ _ holds. follows_it pids acts os h plain p i n e r other j d q.0 q.1
            (omega arith) receives row holds.0.0 holds.0.1 holds.1
        | false ↦ λ unequal holds.
            let differ = other_label d.label e.label unequal in
            record {
              receive = d;
              at = x.at;
              label = refl;
              other = differ;
              begins = begins_after pids acts os h plain p i n e r other j d q.0 q.1 (omega arith)
                  receives row holds.0 holds.1 differ;
            }
      ]) refl)

  -- the claim, if no receive of the prev is there and the row begins at k
  by_start : (k : ℕ) → row_first e.serial.prev es i ≡ k
      → take_before e.serial.prev es k ≡ None
      → IsClaimed (cond (k == 0 && e.serial.prev == 0) hop.Begins (hop.Moved k))
  by_start zero starts none =
      let row = subst (λ k. (y : ℕ) → k ≤ y → y < i → (f : Event) × (slice_get es y ≡ Some f)
      × (is_in_row e.serial.prev f ≡ true)) starts (row_between e.serial.prev es i) in
      (elim (e.serial.prev == 0) as (λ b. (e.serial.prev == 0) ≡ b
      → IsClaimed (cond b hop.Begins (hop.Moved 0))) [
        | true ↦ λ _ holds.
            begins pids acts os h plain p i n e r other row holds.0 holds.1
        | false ↦ λ some _. moved_first pids acts os h plain p i n e r other row some
      ]) refl
  by_start (suc j) starts none =
      let prev = e.serial.prev in
      let within = row_start_within prev es i in
      let less : j < i = omega arith in
      let d = earlier_event es j i e at less in
      let q = event_reported (map machine_act acts) os p j d.0 d.1 in
      let row = subst (λ k. (y : ℕ) → k ≤ y → y < i → (f : Event) × (slice_get es y ≡ Some f)
      × (is_in_row prev f ≡ true)) starts (row_between prev es i) in
      subst (λ b. IsClaimed (cond (b && prev == 0) hop.Begins (hop.Moved (suc j))))
      (sym (not_zero j)) (λ _. moved_later pids acts os h plain p i n e r other j d.0 q.0 q.1 less
      row
      (differs d.0 prev (row_stopped prev es i j d.0 starts d.1)
      (not_received prev es j d.0 none d.1)))

  stamp_claims : IsClaimed (hop_of_stamp es i e)
  stamp_claims =
      let prev = e.serial.prev in
      let start = row_first prev es i in
      (elim (take_before prev es start) as (λ o. take_before prev es start ≡ o
      → IsClaimed (node_hop_by es prev e.label start o)) [
        | Some j ↦ λ is. by_label j is
        | None ↦ λ none. by_start start refl none
      ]) refl

pub hop_true : (streams : List Stream) (p : Pid) (i : ℕ) (e : Event) → IsStreams streams
    → event_at streams p i ≡ Some e
    → IsTrueOnNode streams p i e (node_hop_of streams p i e)
hop_true streams p i e sound at pids acts os h plain shown n r =
    let es = events_of streams p in
    let are = listed_events streams acts os shown p (listed_at streams p i e at) in
    (elim (is_stamp e) as (λ b. is_stamp e ≡ b
    → PremisesHold pids acts os p (events_before (cond b (hop_of_stamp es i e)
    (node_hop_to_send e.from (send_of streams (take i es) e)))) e n
    (node_premises_of (cond b (hop_of_stamp es i e)
    (node_hop_to_send e.from (send_of streams (take i es) e))))
    → HopClaims pids acts os p e n (cond b (hop_of_stamp es i e)
    (node_hop_to_send e.from (send_of streams (take i es) e)))) [
      | true ↦ λ stamps.
          subst (λ xs. PremisesHold pids acts os p (events_before (hop_of_stamp xs i e)) e n
          (node_premises_of (hop_of_stamp xs i e))
          → HopClaims pids acts os p e n (hop_of_stamp xs i e))
          (sym are)
          (stamp_claims pids acts os h plain p i n e r (stamp_not_received e stamps)
          (ap (λ xs. slice_get xs i) (sym are) ∙ at))
      | false ↦ λ isnt.
          let receives = receive_kind e isnt in
          (elim (send_of streams (take i es) e) as (λ o. send_of streams (take i es) e ≡ o
          → PremisesHold pids acts os p (events_before (node_hop_to_send e.from o)) e n
          (node_premises_of (node_hop_to_send e.from o))
          → HopClaims pids acts os p e n (node_hop_to_send e.from o)) [
            | Some j ↦ λ is holds.
                sent_true streams sound pids acts os h shown p i n e at r receives j is holds
            | None ↦ λ none _.
                unsent_true streams sound pids acts os h shown p i n e at r receives none
          ]) refl
    ]) refl
