-- A receive's message is from its source, a hidden send or its sender's stamp with its count. The
-- source is a send, has a lower key and is at most as high. And each send that came with its
-- sender and count gives its event.
use Rattle.std.proofs.Common.{◌≡◌, ℕ, suc, ◌+◌, ◌==◌, ◌&&◌, max, Bool, true, false, not, List}
use Rattle.std.proofs.Common.{Option, Some, None, refl, sym, ◌∙◌, ap, subst, arith, if◌then◌else◌}
use Rattle.std.specs.List.{slice_get, AllByRecursion}
use Rattle.std.specs.Option.{option_map_or}
use Rattle.std.proofs.lemmas.Bool.{eqb-true, false≢true, not-false, and_parts}
use Rattle.std.proofs.lemmas.Option.{same_Some, cond_some}
use Rattle.st_core.specs.declared.types.Pid.{Pid}
use Rattle.st_core.specs.declared.types.Kind.{Kind}
use Rattle.st_core.specs.declared.types.Kind.TheVariants as kind
use Rattle.st_core.specs.declared.types.Event.{Event}
use Rattle.st_core.specs.Pid.{pid_eq}
use Rattle.st_core.specs.Run.{Stream}
use Rattle.st_core.specs.Streams.{events_of}
use Rattle.st_core.proofs.ForCallers.{pid_eq-refl, all_at}
use Rattle.st_pair.specs.Places.{event_at, is_stamp}
use Rattle.st_pair.specs.Pairing.{stamp_of, receive_of, receiver_at}
use Rattle.st_pair.proofs.ForCallers.{given_from, once_place, own_rule, IsPaired, receive_unstamped}
use Rattle.st_order.specs.declared.item.Item.{Item}
use Rattle.st_order.specs.declared.item.Item.TheVariants as item
use Rattle.st_order.specs.Items.{height, is_hidden}
use Rattle.st_order.specs.Order.{key_by}
use Rattle.st_order.proofs.ForCallers.{hidden_receives, tallest_has}
use Rattle.st_plan.specs.Marks.{Marks}
use Rattle.st_plan.specs.Moves.{Move, move_by}
use Rattle.st_plan.proofs.Receives.{IsWaiting}
use Rattle.st_plan.proofs.EarlierMoves.{IsAt, IsKeyBelow}
use Rattle.st_plan.proofs.RisingStamps.{height_is, height_more, height_of, rank_of, IsTop}
use Rattle.st_plan.proofs.Clocks.{HasCome, IsBelow}
use Rattle.st_plan.proofs.WaitingMessages.{is_waiting, Fits, IsSendTo}
use Rattle.st_plan.proofs.MatchedSends.{matched_send, same_place, untaken}

-- KINDS

abbrev sent_by : Pid → Option Pid → Kind → Bool
sent_by q to kind.Send = option_map_or (λ x. pid_eq q x) to false
sent_by q to k = false

abbrev sending_kind : Kind → Bool
sending_kind kind.Send = true
sending_kind k = false

sent_from : (q : Pid) (to : Option Pid) (k : Kind) → sending_kind k ≡ true
    → sent_by q to k ≡ option_map_or (λ x. pid_eq q x) to false
sent_from q to kind.Send h = refl
sent_from q to k h = absurd (false≢true h)

is_sending : (q : Pid) (to : Option Pid) (k : Kind) → sent_by q to k ≡ true → k ≡ kind.Send
is_sending q to kind.Send h = refl
is_sending q to k h = absurd (false≢true h)

-- A RECEIVE AND ITS SOURCE

-- the event at this place is a receive, which is p's own
pub record IsReceive (streams : List Stream) (p : Pid) (i : ℕ) (e : Event) : Type 0 where
  pub at : event_at streams p i ≡ Some e
  pub kind : e.kind ≡ kind.Receive
  pub to : e.to ≡ Some p

abbrev pub stamp_by : Kind → Bool
stamp_by kind.Receive = false
stamp_by k = true

pub stamp_kind : (e : Event) (k : Kind) → e.kind ≡ k → is_stamp e ≡ stamp_by k
stamp_kind e k h = ap stamp_by h

-- the item that sent the receive's message
pub record HasSource (streams : List Stream) (p : Pid) (i : ℕ) (e : Event) : Type 0 where
  pub thing : Item
  pub event : Event
  pub at : IsAt streams thing event
  pub sent : IsSendTo p e.from e.serial.this (move_by thing event)
  pub before : IsKeyBelow (key_by streams (item.Reported p i) e) (key_by streams thing event) → ⊥

receive_rank : (e : Event) → is_stamp e ≡ false → rank_of e ≡ 1
receive_rank e h = ap (λ b. let n : ℕ = if b then 0 else 1 in n) h

-- no key with the receive's height and rank 0 is above the receive's
not_after : (streams : List Stream) (p : Pid) (i : ℕ) (e : Event) (x : Item) (d : Event)
    → event_at streams p i ≡ Some e
    → is_stamp e ≡ false → (key_by streams x d).height ≡ e.serial.this
    → (key_by streams x d).rank ≡ 0
    → IsKeyBelow (key_by streams (item.Reported p i) e) (key_by streams x d) → ⊥
not_after streams p i e x d at receive high low below =
    let one = below.height in
    let mine = height_is streams p i in
    let least = tallest_has (events_of streams p) (suc i) i e at (omega arith) in
    let rank = below.rank (omega arith) in
    let ranked = receive_rank e receive in
    omega arith

hidden_is : (streams : List Stream) (e : Event) → is_stamp e ≡ false
    → stamp_of streams e.from e.serial.this ≡ None → is_hidden streams e ≡ true
hidden_is streams e receive none =
    rw (receive, none) refl

to_is : (p : Pid) (to : Option Pid) → to ≡ Some p → option_map_or (λ x. pid_eq p x) to false ≡ true
to_is p to h = rw (h, pid_eq-refl p) refl

-- each stamp that is there is above all events of its process before it
abbrev pub AreTops : List Stream → Type 0
AreTops streams = (x : Item) (d : Event) → IsAt streams x d → IsTop streams x d

pub source_item : (streams : List Stream) → IsPaired streams → AreTops streams
    → (p : Pid) (i : ℕ) (e : Event) → IsReceive streams p i e → HasSource streams p i e
source_item streams ok tops p i e r =
    let receive = receive_unstamped e r.kind in
    let sought = stamp_of streams e.from e.serial.this in
    elim sought as (λ o. sought ≡ o → HasSource streams p i e) [
      | None ↦ λ none. record {
        thing = item.Hidden p i;
        event = e;
        at = (r.at, hidden_is streams e receive none);
        sent = record { stamps = refl; sends = to_is p e.to r.to; who = refl; count = refl };
        before = not_after streams p i e (item.Hidden p i) e r.at receive refl refl;
      }
      | Some g ↦ λ some.
          let found = given_from (own_rule e.serial.this) e.from 0
          (events_of streams e.from) g some in
          let f = found.1 in
          let test = (cond_some (is_stamp f && f.serial.this == e.serial.this)
          (0 + found.0, f) g found.3).0 in
          let tests = and_parts (is_stamp f) (f.serial.this == e.serial.this) test in
          let count = eqb-true f.serial.this e.serial.this tests.1 in
          let top = tops (item.Reported e.from found.0) f found.2 tests.0 in
          let agreed = matched_send streams ok p i e e.from found.0 f r.at receive found.2 tests.0
          refl count in
          let high : height streams e.from found.0 ≡ max f.serial.this
          (height_of streams e.from found.0) =
          height_is streams e.from found.0 ∙ height_more streams e.from found.0 f found.2 in
          let ranked : rank_of f ≡ 0 = ap (λ b. let n : ℕ = if b then 0 else 1 in n) tests.0 in
          record {
            thing = item.Reported e.from found.0;
            event = f;
            at = found.2;
            sent = record {
              stamps = ap (λ b. not b) tests.0;
              sends = sent_from p f.to f.kind agreed.sends ∙ to_is p f.to (agreed.to ∙ r.to);
              who = refl;
              count = count;
            };
            before = not_after streams p i e (item.Reported e.from found.0) f r.at receive
                (omega arith) ranked;
          }
    ] refl

-- EACH SEND WITH ITS FROM AND COUNT

fits_by : (streams : List Stream) (marks : Marks) → IsPaired streams → (p : Pid) (i : ℕ) (e : Event)
    → IsReceive streams p i e → (x : Item) (d : Event) → IsAt streams x d
    → IsSendTo p e.from e.serial.this (move_by x d)
    → Fits streams marks p e (marks p i) (move_by x d)
fits_by streams marks ok p i e r (item.Hidden a b) d at sent =
    let who = sent.who in
    let count = sent.count in
    let same = same_place streams ok p i e a b d r.at (receive_unstamped e r.kind) at.0
    (hidden_receives streams d at.1) who count in
    let there : event_at streams a b ≡ event_at streams p i =
    ap (λ q. event_at streams q b) same.0 ∙ ap (event_at streams p) same.1 in
    let event : d ≡ e = same_Some d e (sym at.0 ∙ there ∙ r.at) in
    let kinds = sym r.kind in
    let tos = sym r.to in (
      ap (λ q. marks q b) same.0 ∙ ap (marks p) same.1,
      λ k. record (event k) { kind = kinds k; to = tos k },
    )
fits_by streams marks ok p i e r (item.Reported q j) d at sent =
    let who = sent.who in
    let count = sent.count in
    let receive = receive_unstamped e r.kind in
    let stamp = not-false (is_stamp d) sent.stamps in
    let agreed = matched_send streams ok p i e q j d r.at receive at stamp who count in
    let kind_is = is_sending p d.to d.kind sent.sends in
    let first : receive_of streams q d.serial.this ≡ Some (p, i) =
    rw (who, count) (once_place streams ok p i e r.at receive) in
    let receiver : receiver_at streams q j ≡ Some (p, i) = rw (at, agreed.sends) first in
    let kinds = sym r.kind in
    let tos = sym r.to in
    let prevs = agreed.prev in
    let labels = agreed.label in
    let values = agreed.value in (
      rw (kind_is, receiver) refl,
      λ k. record {
        label = labels k;
        kind = kinds k;
        serial = record { prev = prevs k; this = count k };
        from = who k;
        to = tos k;
        value = values k;
      },
    )

-- each send that came, with the from and the count of a receive, fits it
fits : (streams : List Stream) (marks : Marks) → IsPaired streams → (p : Pid) (i : ℕ) (e : Event)
    → IsReceive streams p i e → (y : Move) → HasCome streams y → IsSendTo p e.from e.serial.this y
    → Fits streams marks p e (marks p i) y
fits streams marks ok p i e r y came sent = subst (Fits streams marks p e (marks p i)) came.is
    (fits_by streams marks ok p i e r y.item y.event came.at
    (subst (IsSendTo p e.from e.serial.this) (sym came.is) sent))

-- a receive whose source came finds its message waiting
pub receive_waits : (streams : List Stream) (marks : Marks) → IsPaired streams
    → (earlier : List Move) (p : Pid)
    (i : ℕ) (e : Event) → IsReceive streams p i e → AllByRecursion (HasCome streams) earlier
    → AllByRecursion (IsBelow streams (move_by (item.Reported p i) e)) earlier
    → (source : HasSource streams p i e) (n : ℕ) → slice_get earlier n
    ≡ Some (move_by source.thing source.event)
    → IsWaiting streams marks earlier (move_by (item.Reported p i) e)
receive_waits streams marks ok earlier p i e r came below source n at =
    let free = untaken streams ok p i e earlier r.at (receive_unstamped e r.kind) came below p in
    is_waiting streams marks earlier (move_by (item.Reported p i) e) n
    (move_by source.thing source.event) free at source.sent
    (λ k y among sent. fits streams marks ok p i e r y
    (all_at (HasCome streams) earlier k y came among) sent)
