-- In an order in which each receive comes after a send, each has one: so if the order has all
-- events, none is unsent.
use Rattle.std.proofs.Common.{◌≡◌, ℕ, ◌+◌, ◌<◌, ◌&&◌, zero, suc, cond, Bool, true, false, List, []}
use Rattle.std.proofs.Common.{◌∷◌, ◌++◌, length, take, Some, None, option_map, inl, inr, refl}
use Rattle.std.proofs.Common.{arith, sym, ◌∙◌, ap, subst, append_assoc, append-nil}
use Rattle.std.specs.List.{count_by, slice_get}
use Rattle.std.specs.Option.{is_none}
use Rattle.std.proofs.lemmas.Option.{same_Some}
use Rattle.st_core.specs.declared.types.Pid.{Pid}
use Rattle.st_core.specs.declared.types.Event.{Event}
use Rattle.st_core.specs.Pid.{pid_eq}
use Rattle.st_core.specs.Run.{pids_of, Stream}
use Rattle.st_core.specs.Streams.{events_of}
use Rattle.st_core.proofs.ForCallers.{pid_eq-true, place_within}
use Rattle.node_streams.specs.Messages.{is_unsent, nth, send_of, takes_message, unsent_among}
use Rattle.node_streams.specs.Messages.{unsent_from}
use Rattle.node_streams.specs.Order.{HaveOrder, IsTurnOrder, next_event, turns}
use Rattle.node_streams.proofs.Counting.{turns_more}
use Rattle.node_streams.proofs.Orders.{less_or_same, past_end}
use Rattle.node_machine.proofs.ForCallers.{count_first}

-- after the turns p has an event left, and if it is a receive, it has a send, which came
pub record GoesSent (streams : List Stream) (order : List Pid) (p : Pid) : Type 0 where
  pub event : Event
  pub next : next_event streams order p ≡ Some event
  pub sent : takes_message event ≡ true → (j : ℕ)
      × (send_of streams (take (turns p order) (events_of streams p)) event ≡ Some j)
      × (j < turns event.from order)

abbrev pub IsSentOrder : List Stream → List Pid → Type 0
IsSentOrder streams [] = Unit {0}
IsSentOrder streams (p ∷ order) = GoesSent streams order p × IsSentOrder streams order

-- all events have an order in which each receive comes after its send
pub record HaveSentOrder (streams : List Stream) : Type 0 where
  pub order : List Pid
  pub is_order : IsSentOrder streams order
  pub over : (p : Pid) → next_event streams order p ≡ None

turn_order : (streams : List Stream) (order : List Pid) → IsSentOrder streams order
    → IsTurnOrder streams order
turn_order streams [] is = tt
turn_order streams (p ∷ order) is = (
  record {
    event = is.0.event;
    next = is.0.next;
    sent = λ kind j at.
        let send = is.0.sent kind in
        subst (λ n. n < turns is.0.event.from order) (same_Some send.0 j (sym send.1 ∙ at)) send.2;
  },
  turn_order streams order is.1,
)

pub sent_order : (streams : List Stream) → HaveSentOrder streams → HaveOrder streams
sent_order streams have = record {
  order = have.order;
  is_order = turn_order streams have.order have.is_order;
  over = have.over;
}

-- NOTHING UNSENT

module _ (streams : List Stream) where
  has_send : (order : List Pid) (p : Pid) (can : GoesSent streams order p)
      → is_unsent streams (take (turns p order) (events_of streams p)) can.event ≡ false
  has_send order p can =
      let send = send_of streams (take (turns p order) (events_of streams p)) can.event in
      (elim (takes_message can.event) as (λ b. takes_message can.event ≡ b
      → (b && is_none send) ≡ false) [
        | true ↦ λ is. ap is_none (can.sent is).1
        | false ↦ λ _. refl
      ]) refl

  sent_at : (order : List Pid) (p : Pid) (i : ℕ) (e : Event) → GoesSent streams order p
      → i ≡ turns p order → slice_get (events_of streams p) i ≡ Some e
      → is_unsent streams (take i (events_of streams p)) e ≡ false
  sent_at order p i e can same at =
      let es = events_of streams p in
      let event = same_Some can.event e (sym can.next ∙ ap (slice_get es) (sym same) ∙ at) in
      ap (λ n. is_unsent streams (take n es) e) same
      ∙ ap (is_unsent streams (take (turns p order) es)) (sym event)
      ∙ has_send order p can

  each_sent : (order : List Pid) → IsSentOrder streams order → (p : Pid) (i : ℕ) (e : Event)
      → i < turns p order → slice_get (events_of streams p) i ≡ Some e
      → is_unsent streams (take i (events_of streams p)) e ≡ false
  each_sent [] is p i e within at = absurd (omega arith)
  each_sent (q ∷ order) is p i e within at =
      let more = turns_more q order p in
      (elim (pid_eq q p) as (λ b. pid_eq q p ≡ b → i < cond b 1 0 + turns p order
      → is_unsent streams (take i (events_of streams p)) e ≡ false) [
        | true ↦ λ same below. elim (less_or_same i (turns p order) (omega arith)) [
          | inl less ↦ each_sent order is.1 p i e less at
          | inr here ↦ sent_at order p i e
              (subst (GoesSent streams order) (pid_eq-true q p same) is.0) here at
        ]
        | false ↦ λ _ below. each_sent order is.1 p i e (omega arith) at
      ]) refl (omega arith)

  none_from : (p : Pid) (before es : List Event)
      → ((i : ℕ) (e : Event) → slice_get es i ≡ Some e
      → is_unsent streams (before ++ take i es) e ≡ false)
      → unsent_from streams p before es ≡ []
  none_from p before [] sent = refl
  none_from p before (e ∷ es) sent =
      let first = ap (λ xs. is_unsent streams xs e) (sym (append-nil before)) ∙ sent 0 e refl in
      ap (λ b. cond b ((p, length before) ∷ []) [] ++ unsent_from streams p (before ++ e ∷ []) es)
      first
      ∙ none_from p (before ++ e ∷ []) es (λ i d at.
      ap (λ xs. is_unsent streams xs d) (append_assoc before (e ∷ []) (take i es))
      ∙ sent (suc i) d at)

  none_among : (ps : List Pid) → ((p : Pid) → unsent_from streams p [] (events_of streams p) ≡ [])
      → unsent_among streams ps ≡ []
  none_among [] none = refl
  none_among (p ∷ ps) none =
      ap (λ xs. xs ++ unsent_among streams ps) (none p) ∙ none_among ps none

  pub nothing_unsent : HaveSentOrder streams → unsent_among streams (pids_of streams) ≡ []
  nothing_unsent have = none_among (pids_of streams) (λ p.
      let es = events_of streams p in
      let end = past_end es (turns p have.order) (have.over p) in
      none_from p [] es (λ i e at.
      let within = place_within es i e at in
      each_sent have.order have.is_order p i e (omega arith) at))

-- THE SEND OF A RECEIVE

-- the event that passes after k others is among the first n, if more than k pass there
pub nth_within : (test : Event → Bool) (es : List Event) (n k : ℕ)
    → k < count_by test (take n es)
    → (j : ℕ) × (nth test k es ≡ Some j) × (j < n)
nth_within test [] zero k less = absurd (omega arith)
nth_within test [] (suc n) k less = absurd (omega arith)
nth_within test (e ∷ es) zero k less = absurd (omega arith)
nth_within test (e ∷ es) (suc n) zero less =
    let more = count_first test e (take n es) in
    (elim (test e) as (λ b. 0 < cond b 1 0 + count_by test (take n es)
    → (j : ℕ) × (cond b (Some 0) (option_map suc (nth test zero es)) ≡ Some j) × (j < suc n)) [
      | true ↦ λ _. (0, refl, omega arith)
      | false ↦ λ some.
          let rest = nth_within test es n zero (omega arith) in
          let below = rest.2 in
          (suc rest.0, ap (option_map suc) rest.1, omega arith)
    ]) (omega arith)
nth_within test (e ∷ es) (suc n) (suc k) less =
    let more = count_first test e (take n es) in
    (elim (test e) as (λ b. suc k < cond b 1 0 + count_by test (take n es)
    → (j : ℕ) × (cond b (option_map suc (nth test k es)) (option_map suc (nth test (suc k) es))
    ≡ Some j) × (j < suc n)) [
      | true ↦ λ some.
          let rest = nth_within test es n k (omega arith) in
          let below = rest.2 in
          (suc rest.0, ap (option_map suc) rest.1, omega arith)
      | false ↦ λ some.
          let rest = nth_within test es n (suc k) (omega arith) in
          let below = rest.2 in
          (suc rest.0, ap (option_map suc) rest.1, omega arith)
    ]) (omega arith)
