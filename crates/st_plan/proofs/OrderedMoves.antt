-- In an order of all that is there each move is above those before it, and a receive's source has a
-- lower key, so that it came: each receive finds its message, and each stamp its process's clock
-- below its count.
use Rattle.std.proofs.Common.{◌≡◌, ℕ, zero, suc, ◌<◌, ◌⊎◌, true, false, not, List, [], ◌∷◌, Some}
use Rattle.std.proofs.Common.{inl, inr, refl, sym, ◌∙◌, ap, subst, arith}
use Rattle.std.specs.List.{slice_get, AllByRecursion}
use Rattle.std.proofs.lemmas.Bool.{false≢true}
use Rattle.std.proofs.lemmas.Option.{same_Some, none-some}
use Rattle.st_core.specs.declared.types.Pid.{Pid}
use Rattle.st_core.specs.declared.types.Event.{Event}
use Rattle.st_core.specs.Run.{Stream}
use Rattle.st_core.proofs.ForCallers.{all_at}
use Rattle.st_pair.specs.Places.{event_at, is_stamp}
use Rattle.st_pair.proofs.ForCallers.{IsPaired, receive_unstamped, serial_rises}
use Rattle.st_order.specs.declared.item.Item.{Item}
use Rattle.st_order.specs.declared.item.Item.TheVariants as item
use Rattle.st_order.specs.Items.{event_of}
use Rattle.st_order.specs.Order.{key_by, comes_before, KeysRise}
use Rattle.st_plan.specs.Marks.{Marks}
use Rattle.st_plan.specs.Moves.{Move, move_by, moves, is_taking, clock}
use Rattle.st_plan.proofs.EarlierMoves.{before_below, clock_below, event_is, one_move}
use Rattle.st_plan.proofs.EarlierMoves.{there_event, IsAt, IsKeyBelow, IsThere}
use Rattle.st_plan.proofs.FreeMoves.{AllAlong, IsInTurn}
use Rattle.st_plan.proofs.Receives.{IsWaiting}
use Rattle.st_plan.proofs.RisingStamps.{IsTop}
use Rattle.st_plan.proofs.Clocks.{all_below, at_event, have_by, stamps_of, top_of, HasCome, IsKnown}
use Rattle.st_plan.proofs.Clocks.{IsNext}
use Rattle.st_plan.proofs.Sources.{receive_waits, source_item, AreTops, HasSource, IsReceive}

-- MOVES OF ITEMS

pub item_is : (x : Item) (e : Event) → (move_by x e).item ≡ x
item_is (item.Reported p i) e = refl
item_is (item.Hidden p i) e = refl

again : (x : Item) (e : Event) → move_by (move_by x e).item (move_by x e).event ≡ move_by x e
again (item.Reported p i) e = refl
again (item.Hidden p i) e = refl

moved_at : (streams : List Stream) (x : Item) (e : Event) → IsAt streams x e
    → IsAt streams (move_by x e).item (move_by x e).event
moved_at streams (item.Reported p i) e h = h
moved_at streams (item.Hidden p i) e h = h

-- an earlier move that comes before all of these items
pub record Leads (streams : List Stream) (xs : List Item) (y : Move) : Type 0 where
  pub at : event_of streams y.item ≡ Some y.event
  pub before : AllByRecursion (λ x. comes_before streams y.item x ≡ true) xs

leads_below : (streams : List Stream) (x : Item) (xs : List Item) (e : Event) (earlier : List Move)
    → IsAt streams x e → AllByRecursion (Leads streams (x ∷ xs)) earlier
    → AllByRecursion (λ y. IsKeyBelow (key_by streams y.item y.event) (key_by streams x e)) earlier
leads_below streams x xs e [] at all = tt
leads_below streams x xs e (y ∷ earlier) at all = (
  before_below streams y.item x y.event e all.0.at (there_event streams x e at) all.0.before.0,
  leads_below streams x xs e earlier at all.1,
)

leads_on : (streams : List Stream) (x : Item) (xs : List Item) (earlier : List Move)
    → AllByRecursion (Leads streams (x ∷ xs)) earlier → AllByRecursion (Leads streams xs) earlier
leads_on streams x xs [] all = tt
leads_on streams x xs (y ∷ earlier) all = (
  record { at = all.0.at; before = all.0.before.1 },
  leads_on streams x xs earlier all.1,
)

leads_new : (streams : List Stream) (x : Item) (xs : List Item) (e : Event) → IsAt streams x e
    → AllByRecursion (λ z. comes_before streams x z ≡ true) xs → Leads streams xs (move_by x e)
leads_new streams (item.Reported p i) xs e at before = record { at = at; before = before }
leads_new streams (item.Hidden p i) xs e at before = record { at = at.0; before = before }

-- streams have all of these items
abbrev pub AreThere : List Stream → List Item → Type 0
AreThere streams xs = AllByRecursion (IsThere streams) xs

abbrev pub AreInTurn : List Move → List Move → Type 0
AreInTurn earlier ms = AllAlong (λ before m. IsInTurn before m.item) earlier ms

-- what the order says of each move
pub next_along : (streams : List Stream) (earlier : List Move) (xs : List Item)
    → AreThere streams xs → AllByRecursion (Leads streams xs) earlier → KeysRise streams xs
    → AreInTurn earlier (moves streams xs) → AllAlong (IsNext streams) earlier (moves streams xs)
next_along streams earlier [] there leads rise turns = tt
next_along streams earlier (x ∷ xs) there leads rise turns =
    let e = there.0.0 in
    let at = there.0.1 in
    let m = move_by x e in
    let cons = one_move streams x e xs (there_event streams x e at) in
    let turned : AreInTurn earlier (m ∷ moves streams xs) = subst (AreInTurn earlier) cons turns in
    let below = leads_below streams x xs e earlier at leads in
    let AreBelow : Item → Event → Type 0 =
    λ z d. AllByRecursion (λ y. IsKeyBelow (key_by streams y.item y.event)
    (key_by streams z d)) earlier in
    let leading : AllByRecursion (Leads streams xs) (m ∷ earlier) =
    (leads_new streams x xs e at rise.0, leads_on streams x xs earlier leads) in
    subst (AllAlong (IsNext streams) earlier) (sym cons) (
      record {
        at = moved_at streams x e at;
        is = again x e;
        below = subst (λ z. AreBelow z (move_by x e).event) (sym (item_is x e))
            (subst (AreBelow x) (sym (event_is x e)) below);
        turn = turned.0;
      },
      next_along streams (m ∷ earlier) xs there.1 leading rise.1 turned.1,
    )

abbrev pub IsClockBelow : List Move → Move → Type 0
IsClockBelow before m = is_taking m ≡ false → clock m.who before < m.event.serial.this

-- what is known at each move
abbrev pub Knows : List Stream → List Move → Move → Type 0
Knows streams before m = IsKnown streams before × HasCome streams m

pub known_along : (streams : List Stream) (earlier ms : List Move) → IsPaired streams
    → AllAlong (IsNext streams) earlier ms → IsKnown streams earlier
    → AllAlong (Knows streams) earlier ms
known_along streams earlier [] ok all known = tt
known_along streams earlier (m ∷ ms) ok all known =
    let next = all.0 in
    let come : HasCome streams m = record {
      at = next.at;
      is = next.is;
      top = top_of streams earlier m.item m.event ok next.at next.turn next.below known;
    } in
    let more : IsKnown streams (m ∷ earlier) = record {
      each = (come, known.each);
      have = λ q k less. have_by m earlier m.item refl next.turn known.have q k less;
    } in
    ((known, come), known_along streams (m ∷ earlier) ms ok all.1 more)

-- at each stamp its process's clock is below its count
clocks_below : (streams : List Stream) (earlier ms : List Move) → IsPaired streams
    → AllAlong (IsNext streams) earlier ms → AllAlong (Knows streams) earlier ms
    → AllAlong IsClockBelow earlier ms
clocks_below streams earlier [] ok all known = tt
clocks_below streams earlier (m ∷ ms) ok all known =
    let next = all.0 in
    let place = at_event streams m.item m.event next.at in
    let rises = serial_rises streams ok place.0 place.1 m.event place.2 in (
      λ stamps. clock_below m.who m.event.serial.this earlier (omega arith)
          (all_below streams m earlier next.at next.is (stamps_of m.item m.event stamps)
          known.0.1.top known.0.0.each next.below),
      clocks_below streams (m ∷ earlier) ms ok all.1 known.1,
    )

-- SOURCES COME FIRST

-- each item of the streams came, or is still to come
abbrev pub Covers : List Stream → List Move → List Item → Type 0
Covers streams earlier xs = (z : Item) (d : Event) → IsAt streams z d
    → ((n : ℕ) × (slice_get earlier n ≡ Some (move_by z d))) ⊎ ((n : ℕ) × (slice_get xs n ≡ Some z))

covers_on : (streams : List Stream) (earlier : List Move) (x : Item) (xs : List Item) (e : Event)
    → IsAt streams x e → Covers streams earlier (x ∷ xs) → Covers streams (move_by x e ∷ earlier) xs
covers_on streams earlier x xs e at covers z d at_z = elim (covers z d at_z) [
  | inl came ↦ inl (suc came.0, came.1)
  | inr (zero, here) ↦
      let same : x ≡ z = same_Some x z here in
      let event : e ≡ d = same_Some e d (sym (there_event streams x e at)
      ∙ ap (event_of streams) same
      ∙ there_event streams z d at_z) in
      inl (0, λ k. Some (move_by (same k) (event k)))
  | inr (suc n, there) ↦ inr (n, there)
]

self_source : (streams : List Stream) (p : Pid) (i : ℕ) (e : Event)
    (source : HasSource streams p i e)
    → event_at streams p i ≡ Some e → is_stamp e ≡ false → item.Reported p i ≡ source.thing → ⊥
self_source streams p i e source at receive same =
    let d = source.event in
    let at_d : event_at streams p i ≡ Some d = subst (λ x. IsAt streams x d) (sym same) source.at in
    let event : d ≡ e = same_Some d e (sym at_d ∙ at) in
    let stamps : not (is_stamp d) ≡ false =
    ap (λ x. is_taking (move_by x d)) same ∙ source.sent.stamps in
    false≢true (sym stamps ∙ ap (λ (c : Event). not (is_stamp c)) event ∙ ap not receive)

-- if the item is a receive, its source came
source_came : (streams : List Stream) (earlier : List Move) (p : Pid) (i : ℕ) (e : Event)
    (xs : List Item)
    → event_at streams p i ≡ Some e → is_stamp e ≡ false → KeysRise streams (item.Reported p i ∷ xs)
    → Covers streams earlier (item.Reported p i ∷ xs) → (source : HasSource streams p i e)
    → (n : ℕ) × (slice_get earlier n ≡ Some (move_by source.thing source.event))
source_came streams earlier p i e xs at receive rise covers source =
    elim (covers source.thing source.event source.at) [
      | inl came ↦ came
      | inr (zero, here) ↦ absurd (self_source streams p i e source at receive
          (same_Some (item.Reported p i) source.thing here))
      | inr (suc n, there) ↦
          let before = all_at (λ z. comes_before streams (item.Reported p i) z
          ≡ true) xs n source.thing rise.0 there in
          absurd
          (source.before (before_below streams (item.Reported p i) source.thing e source.event
          at
          (there_event streams source.thing source.event source.at) before))
    ]

-- a receive of the order finds its message
abbrev pub Waits : List Stream → Marks → List Move → Move → Type 0
Waits streams marks earlier m = (p : Pid) (i : ℕ) (e : Event) → m ≡ move_by (item.Reported p i) e
    → IsReceive streams p i e → IsWaiting streams marks earlier m

waits_by : (streams : List Stream) (marks : Marks) → IsPaired streams → AreTops streams
    → (earlier : List Move) (p : Pid) (i : ℕ) (e : Event) (xs : List Item) → IsReceive streams p i e
    → AllByRecursion (Leads streams (item.Reported p i ∷ xs)) earlier
    → KeysRise streams (item.Reported p i ∷ xs)
    → Covers streams earlier (item.Reported p i ∷ xs) → AllByRecursion (HasCome streams) earlier
    → IsWaiting streams marks earlier (move_by (item.Reported p i) e)
waits_by streams marks ok tops earlier p i e xs r leads rise covers came =
    let source = source_item streams ok tops p i e r in
    let first = source_came streams earlier p i e xs r.at
    (receive_unstamped e r.kind) rise covers source in
    let below = leads_below streams (item.Reported p i) xs e earlier r.at leads in
    receive_waits streams marks ok earlier p i e r came below source first.0 first.1

pub waits_along : (streams : List Stream) (marks : Marks) → IsPaired streams → AreTops streams
    → (earlier : List Move)
    (xs : List Item) → AreThere streams xs → AllByRecursion (Leads streams xs) earlier
    → KeysRise streams xs → Covers streams earlier xs
    → AllAlong (Knows streams) earlier (moves streams xs)
    → AllAlong (Waits streams marks) earlier (moves streams xs)
waits_along streams marks ok tops earlier [] there leads rise covers known = tt
waits_along streams marks ok tops earlier (x ∷ xs) there leads rise covers known =
    let e = there.0.0 in
    let at = there.0.1 in
    let m = move_by x e in
    let cons = one_move streams x e xs (there_event streams x e at) in
    let knew : AllAlong (Knows streams) earlier (m ∷ moves streams xs) =
    subst (AllAlong (Knows streams) earlier) cons known in
    let leading : AllByRecursion (Leads streams xs) (m ∷ earlier) =
    (leads_new streams x xs e at rise.0, leads_on streams x xs earlier leads) in
    subst (AllAlong (Waits streams marks) earlier) (sym cons) (
      λ p i d is r.
          let same : x ≡ item.Reported p i = sym (item_is x e) ∙ ap (λ (y : Move). y.item) is in
          subst (IsWaiting streams marks earlier) (sym is)
          (waits_by streams marks ok tops earlier p i d xs r
          (subst (λ z. AllByRecursion (Leads streams (z ∷ xs)) earlier) same leads)
          (subst (λ z. KeysRise streams (z ∷ xs)) same rise)
          (subst (λ z. Covers streams earlier (z ∷ xs)) same covers) knew.0.0.each),
      waits_along streams marks ok tops (m ∷ earlier) xs there.1 leading rise.1
          (covers_on streams earlier x xs e at covers) knew.1,
    )

-- IN AN ORDER

-- all items of the streams are among these
abbrev pub IsWhole : List Stream → List Item → Type 0
IsWhole streams xs = (z : Item) (d : Event) → IsAt streams z d → (n : ℕ) × (slice_get xs n ≡ Some z)

-- what an order of all items in turn gives: at each stamp its process's clock is below its count,
-- and each receive finds its message
pub record IsOrderly (streams : List Stream) (marks : Marks) (xs : List Item) : Type 0 where
  pub clocks : AllAlong IsClockBelow [] (moves streams xs)
  pub waits : AllAlong (Waits streams marks) [] (moves streams xs)

-- what came along the moves holds of each item
tops_from : (streams : List Stream) (earlier : List Move) (xs : List Item) → AreThere streams xs
    → AllAlong (Knows streams) earlier (moves streams xs) → (n : ℕ) (z : Item) (d : Event)
    → slice_get xs n ≡ Some z → IsAt streams z d → IsTop streams z d
tops_from streams earlier [] there known n z d here at = absurd (none-some z here)
tops_from streams earlier (x ∷ xs) there known zero z d here at =
    let e = there.0.0 in
    let at_x = there.0.1 in
    let knew : AllAlong (Knows streams) earlier (move_by x e ∷ moves streams xs) =
    subst (AllAlong (Knows streams) earlier) (one_move streams x e xs
    (there_event streams x e at_x)) known in
    let same : x ≡ z = same_Some x z here in
    let event : e ≡ d = same_Some e d (sym (there_event streams x e at_x)
    ∙ ap (event_of streams) same
    ∙ there_event streams z d at) in
    let top : IsTop streams x e = subst (λ y. IsTop streams y e) (item_is x e)
    (subst (IsTop streams (move_by x e).item) (event_is x e) knew.0.1.top) in
    subst (λ y. IsTop streams y d) same (subst (IsTop streams x) event top)
tops_from streams earlier (x ∷ xs) there known (suc n) z d here at =
    let e = there.0.0 in
    let at_x = there.0.1 in
    let knew : AllAlong (Knows streams) earlier (move_by x e ∷ moves streams xs) =
    subst (AllAlong (Knows streams) earlier) (one_move streams x e xs
    (there_event streams x e at_x)) known in
    tops_from streams (move_by x e ∷ earlier) xs there.1 knew.1 n z d here at

pub orderly : (streams : List Stream) (marks : Marks) → IsPaired streams → (xs : List Item)
    → AreThere streams xs
    → IsWhole streams xs → KeysRise streams xs → AreInTurn [] (moves streams xs)
    → IsOrderly streams marks xs
orderly streams marks ok xs there whole rise turns =
    let next = next_along streams [] xs there tt rise turns in
    let none : IsKnown streams [] = record { each = tt; have = λ q k less. absurd (omega arith) } in
    let known = known_along streams [] (moves streams xs) ok next none in
    let tops : AreTops streams =
    λ x d at.
    let place = whole x d at in
    tops_from streams [] xs there known place.0 x d place.1 at in
    record {
      clocks = clocks_below streams [] (moves streams xs) ok next known;
      waits = waits_along streams marks ok tops [] xs there tt rise
          (λ z d at. inr (whole z d at)) known;
    }
