-- Each move of an order goes on, whatever its item: a stamp's process has a clock below its count,
-- and a receive finds its message.
use Rattle.std.proofs.Common.{◌≡◌, ℕ, ◌<◌, ◌≤◌, true, false, cond, List, [], ◌∷◌, Option, Some}
use Rattle.std.proofs.Common.{None, refl, sym, ◌∙◌, ap, subst}
use Rattle.std.proofs.lemmas.Bool.{false≢true}
use Rattle.st_core.specs.declared.types.Pid.{Pid}
use Rattle.st_core.specs.declared.types.Kind.TheVariants as kind
use Rattle.st_core.specs.declared.types.Event.{Event}
use Rattle.st_core.specs.declared.types.Act.TheVariants as act
use Rattle.st_core.specs.State.{State}
use Rattle.st_core.specs.Run.{Stream}
use Rattle.st_core.specs.Streams.{lists}
use Rattle.st_pair.specs.Places.{event_at, is_stamp}
use Rattle.st_pair.proofs.ForCallers.{serial_rises, IsPaired}
use Rattle.st_order.specs.declared.item.Item.{Item}
use Rattle.st_order.specs.declared.item.Item.TheVariants as item
use Rattle.st_order.specs.Items.{is_hidden}
use Rattle.st_order.proofs.ForCallers.{hidden_receives}
use Rattle.st_plan.specs.Marks.{Marks}
use Rattle.st_plan.specs.Moves.{Move, clock, is_taking, move_by, moves}
use Rattle.st_plan.specs.Build.{flags_of}
use Rattle.st_plan.proofs.EarlierMoves.{one_move, there_event, IsAt}
use Rattle.st_plan.proofs.KeptState.{Continues, IsKept}
use Rattle.st_plan.proofs.Stamps.{printed_event, printing, sending, sent_event, CanStamp}
use Rattle.st_plan.proofs.Receives.{taking}
use Rattle.st_plan.proofs.FreeMoves.{AllAlong, IsFree}
use Rattle.st_plan.proofs.BuiltActs.{Serves}
use Rattle.st_plan.proofs.Sources.{stamp_kind}
use Rattle.st_plan.proofs.OrderedMoves.{AreThere, IsClockBelow, Waits}
use Rattle.st_plan.proofs.ProperEvents.{AreProper, Got, IsProper, Printed, Sent}

hidden_got : (streams : List Stream) (e : Event) → is_hidden streams e ≡ true → is_stamp e ≡ true
    → ⊥
hidden_got streams e hidden stamps = false≢true (sym (hidden_receives streams e hidden) ∙ stamps)

-- BY THE KIND OF THE ITEM

-- what is known of an event at its place
record IsHere (top : ℕ) (streams : List Stream) (p : Pid) (i : ℕ) (e : Event) : Type 0 where
  at : event_at streams p i ≡ Some e
  listed : lists streams p ≡ true
  rises : e.serial.prev < e.serial.this
  within : e.serial.this ≤ top

module _ (top : ℕ) (streams : List Stream) (marks : Marks) (earlier : List Move) (p : Pid) (i : ℕ)
    (e : Event) (h : IsHere top streams p i e) where
  hidden_by : is_hidden streams e ≡ true → IsProper streams p e
      → IsFree earlier (move_by (item.Hidden p i) e) → clock e.from earlier < e.serial.this
      → Serves top streams marks earlier (move_by (item.Hidden p i) e)
  hidden_by hidden (Got kd to from) free below s kept =
      let m = move_by (item.Hidden p i) e in
      let can : CanStamp top streams marks earlier s m = record {
        kept = kept;
        listed = from;
        is = refl;
        stamps = refl;
        rises = h.rises;
        within = h.within;
        below = below;
        free = free.caused;
      } in
      sending top streams marks earlier s m p can h.listed (λ r. rw to refl) (λ q. rw to refl) refl
  hidden_by hidden (Sent to kd from is_to there) free below s kept =
      absurd (hidden_got streams e hidden (stamp_kind e kind.Send kd))
  hidden_by hidden (Printed kd from is_to) free below s kept =
      absurd (hidden_got streams e hidden (stamp_kind e kind.Print kd))

  abbrev m : Move
  m = move_by (item.Reported p i) e

  module _ (free : IsFree earlier m) (below : IsClockBelow earlier m) (s : State)
      (kept : IsKept streams marks earlier s) where
    reported : is_taking m ≡ false → CanStamp top streams marks earlier s m
    reported stamps = record {
      kept = kept;
      listed = h.listed;
      is = refl;
      stamps = stamps;
      rises = h.rises;
      within = h.within;
      below = below stamps;
      free = free.caused;
    }

    print_serves : e.kind ≡ kind.Print → e.from ≡ p → e.to ≡ None
        → Continues top streams marks earlier s m
    print_serves kd from to =
        let kinds = sym kd in
        let froms = sym from in
        let tos = sym to in
        let seen : (flags_of streams marks m).print ≡ marks p i = rw kd refl in
        let same : printed_event m ≡ e =
        λ k. record e { kind = kinds k; from = froms k; to = tos k } in
        printing top streams marks earlier s m (reported (rw kd refl)) (λ r. rw kd refl)
        (λ q. rw kd refl)
        (ap (λ b. let o : Option Event = cond b (Some (printed_event m)) None in o) seen
        ∙ ap (λ (x : Event). let o : Option Event = cond (marks p i) (Some x) None in o) same)

    send_serves : (q : Pid) → e.kind ≡ kind.Send → e.from ≡ p → e.to ≡ Some q
        → lists streams q ≡ true → Continues top streams marks earlier s m
    send_serves q kd from to listed_to =
        let kinds = sym kd in
        let froms = sym from in
        let tos = sym to in
        let seen : (flags_of streams marks m).send ≡ marks p i = rw kd refl in
        let same : sent_event m q ≡ e =
        λ k. record e { kind = kinds k; from = froms k; to = tos k } in
        sending top streams marks earlier s m q (reported (rw kd refl)) listed_to
        (λ r. rw (kd, to) refl) (λ x. rw (kd, to) refl)
        (ap (λ b. let o : Option Event = cond b (Some (sent_event m q)) None in o) seen
        ∙ ap (λ (x : Event). let o : Option Event = cond (marks p i) (Some x) None in o) same)

  reported_by : IsProper streams p e → IsFree earlier m → IsClockBelow earlier m
      → Waits streams marks earlier m → Serves top streams marks earlier m
  reported_by (Sent to kd from is_to there) free below waits s kept =
      send_serves free below s kept to kd from is_to there
  reported_by (Got kd is_to from) free below waits s kept =
      taking top streams marks earlier s m kept h.listed (rw kd refl) (λ r. rw kd refl) refl
      (waits p i e refl (record { at = h.at; kind = kd; to = is_to }))
  reported_by (Printed kd from is_to) free below waits s kept =
      print_serves free below s kept kd from is_to

-- a clock can have the count of each event
abbrev pub AreWithin : ℕ → List Stream → Type 0
AreWithin top streams =
    (p : Pid) (i : ℕ) (e : Event) → event_at streams p i ≡ Some e → e.serial.this ≤ top

module _ (top : ℕ) (streams : List Stream) (marks : Marks) (ok : IsPaired streams)
    (proper : AreProper streams) (within : AreWithin top streams) where
  here : (p : Pid) (i : ℕ) (e : Event) → event_at streams p i ≡ Some e → IsHere top streams p i e
  here p i e at = record {
    at = at;
    listed = proper.listed p i e at;
    rises = serial_rises streams ok p i e at;
    within = within p i e at;
  }

  serves_by : (earlier : List Move) (x : Item) (e : Event) → IsAt streams x e
      → IsFree earlier (move_by x e)
      → IsClockBelow earlier (move_by x e) → Waits streams marks earlier (move_by x e)
      → Serves top streams marks earlier (move_by x e)
  serves_by earlier (item.Reported p i) e at free below waits =
      reported_by top streams marks earlier p i e (here p i e at) (proper.own p i e at) free below
      waits
  serves_by earlier (item.Hidden p i) e at free below waits =
      hidden_by top streams marks earlier p i e (here p i e at.0) at.1 (proper.own p i e at.0) free
      (below refl)

  -- in an order each move goes on
  pub serves_along : (earlier : List Move) (xs : List Item) → AreThere streams xs
      → AllAlong IsFree earlier (moves streams xs) → AllAlong IsClockBelow earlier
      (moves streams xs) → AllAlong (Waits streams marks) earlier (moves streams xs)
      → AllAlong (Serves top streams marks) earlier (moves streams xs)
  serves_along earlier [] there free below waits = tt
  serves_along earlier (x ∷ xs) there free below waits =
      let e = there.0.0 in
      let at = there.0.1 in
      let cons = one_move streams x e xs (there_event streams x e at) in
      let f = subst (AllAlong IsFree earlier) cons free in
      let b = subst (AllAlong IsClockBelow earlier) cons below in
      let w = subst (AllAlong (Waits streams marks) earlier) cons waits in
      subst (AllAlong (Serves top streams marks) earlier) (sym cons) (
        serves_by earlier x e at f.0 b.0 w.0,
        serves_along (move_by x e ∷ earlier) xs there.1 f.1 b.1 w.1,
      )
