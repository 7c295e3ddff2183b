-- An event is directly below another exactly if its hop leads there. A receive is, since its send
-- is the one that names it. A stamp is, since the receive that its hop names is directly before
-- its row: so the stamp is in the row after that receive, and the row of a stamp there begins at
-- the receive.
use Rattle.std.proofs.Common.{◌≡◌, ℕ, ◌+◌, ◌-◌, ◌≤◌, ◌==◌, ◌&&◌, ◌||◌, zero, suc, Bool, true, false}
use Rattle.std.proofs.Common.{cond, List, [], ◌∷◌, ◌++◌, take, drop, Option, Some, None}
use Rattle.std.proofs.Common.{option_and_then, option_map, slice_get, get_or, option_to_list, inl}
use Rattle.std.proofs.Common.{inr, refl, sym, ◌∙◌, ap, subst, arith}
use Rattle.std.specs.Prelude.{not}
use Rattle.std.specs.List.{prefix_len}
use Rattle.std.proofs.lemmas.Bool.{and_from, and_parts, cases_order, eq-eqb, eqb-true, false≢true}
use Rattle.std.proofs.lemmas.Option.{same_Some, none-some, option_and_then_some, slice_get_within}
use Rattle.st_core.specs.declared.types.Pid.{Pid}
use Rattle.st_core.specs.declared.types.Label.{Label}
use Rattle.st_core.specs.declared.types.Kind.{Kind}
use Rattle.st_core.specs.declared.types.Kind.TheVariants as kind
use Rattle.st_core.specs.declared.types.Event.{Event}
use Rattle.st_core.specs.Run.{Stream}
use Rattle.st_core.specs.Streams.{IsStreams, events_of}
use Rattle.st_core.proofs.ForCallers.{eqb-swap, mapped}
use Rattle.st_pair.specs.Places.{event_at, is_stamp}
use Rattle.st_pair.proofs.ForCallers.{at_get_or, blank, receive_kind, receive_unstamped}
use Rattle.node_streams.specs.Messages.{content_of, other_end_of, owner, send_of}
use Rattle.node_streams.proofs.ForCallers.{received_sent, sent_received}
use Rattle.node_hops.specs.Events.{is_in_row, is_take, row_first, take_before}
use Rattle.node_hops.specs.declared.hop.NodeHop.TheVariants as hop
use Rattle.node_hops.specs.Hops.{hop_of_stamp, label_there_or, node_hop_by, node_hop_by_label}
use Rattle.node_hops.specs.Hops.{node_hop_of, node_hop_to_send}
use Rattle.node_hops.specs.Way.{next_at, next_of}
use Rattle.node_hops.specs.Tree.{children, children_of, places_of, receive_place, row_ahead}
use Rattle.node_hops.proofs.RowLemmas.{IsReceivedBefore, IsRowBetween, receive_is, received_at}
use Rattle.node_hops.proofs.RowLemmas.{received_is, row_between, row_passes, row_start_within}
use Rattle.node_hops.proofs.RowLemmas.{row_stops}
use Rattle.node_hops.proofs.Stamps.{kind_receive}

-- x is in the list
abbrev pub IsAmong : {A : Type 0} → List A → A → Type 0
IsAmong xs x = (k : ℕ) × (slice_get xs k ≡ Some x)

-- LISTS

prefix_more : (test : Event → Bool) (x : Event) (xs : List Event) (b : Bool) → test x ≡ b
    → prefix_len test (x ∷ xs) ≡ cond b (suc (prefix_len test xs)) 0
prefix_more test x xs true is =
    let number : 1 + prefix_len test xs ≡ suc (prefix_len test xs) = omega arith in
    ap (λ b. cond b (1 + prefix_len test xs) 0) is ∙ number
prefix_more test x xs false is = ap (λ b. cond b (1 + prefix_len test xs) 0) is

-- an item that passes with all before it is in the front of the list that passes
taken_in : (test : Event → Bool) (xs : List Event) (m : ℕ) (e : Event)
    → ((n : ℕ) (d : Event) → n ≤ m → slice_get xs n ≡ Some d → test d ≡ true)
    → slice_get xs m ≡ Some e
    → slice_get (take (prefix_len test xs) xs) m ≡ Some e
taken_in test [] m e all at = absurd (none-some e at)
taken_in test (x ∷ xs) zero e all at =
    subst (λ n. slice_get (take n (x ∷ xs)) zero ≡ Some e)
    (sym (prefix_more test x xs true (all 0 x (omega arith) refl))) at
taken_in test (x ∷ xs) (suc m) e all at =
    subst (λ n. slice_get (take n (x ∷ xs)) (suc m) ≡ Some e)
    (sym (prefix_more test x xs true (all 0 x (omega arith) refl)))
    (taken_in test xs m e (λ n d less there. all (suc n) d (omega arith) there) at)

-- an item of that front passes with all before it
record IsTakenFrom (test : Event → Bool) (xs : List Event) (m : ℕ) (e : Event) : Type 0 where
  at : slice_get xs m ≡ Some e
  all : (n : ℕ) (d : Event) → n ≤ m → slice_get xs n ≡ Some d → test d ≡ true

passes_first : (test : Event → Bool) (x : Event) (xs : List Event) (n : ℕ) (d : Event)
    → test x ≡ true → n ≡ 0
    → slice_get (x ∷ xs) n ≡ Some d → test d ≡ true
passes_first test x xs zero d is none there = ap test (sym (same_Some x d there)) ∙ is
passes_first test x xs (suc n) d is none there = absurd (omega arith)

passes_next : (test : Event → Bool) (x : Event) (xs : List Event) (m n : ℕ) (d : Event)
    → test x ≡ true
    → ((k : ℕ) (f : Event) → k ≤ m → slice_get xs k ≡ Some f → test f ≡ true) → n ≤ suc m
    → slice_get (x ∷ xs) n ≡ Some d → test d ≡ true
passes_next test x xs m zero d is all less there = ap test (sym (same_Some x d there)) ∙ is
passes_next test x xs m (suc n) d is all less there = all n d (omega arith) there

taken_first : (test : Event → Bool) (x : Event) (xs : List Event) (m : ℕ) (e : Event)
    → test x ≡ true
    → slice_get (take (suc (prefix_len test xs)) (x ∷ xs)) m ≡ Some e
    → ((k : ℕ) → slice_get (take (prefix_len test xs) xs) k ≡ Some e → IsTakenFrom test xs k e)
    → IsTakenFrom test (x ∷ xs) m e
taken_first test x xs zero e is at rest =
    record { at = at; all = λ n d less there. passes_first test x xs n d is (omega arith) there }
taken_first test x xs (suc m) e is at rest =
    let later = rest m at in
    record {
      at = later.at;
      all = λ n d less there. passes_next test x xs m n d is later.all less
          there;
    }

taken_out : (test : Event → Bool) (xs : List Event) (m : ℕ) (e : Event)
    → slice_get (take (prefix_len test xs) xs) m ≡ Some e → IsTakenFrom test xs m e
taken_out test [] m e at = absurd (none-some e at)
taken_out test (x ∷ xs) m e at =
    elim (test x) as (λ b. test x ≡ b → IsTakenFrom test (x ∷ xs) m e) [
      | true ↦ λ is. taken_first test x xs m e is
          (subst (λ n. slice_get (take n (x ∷ xs)) m ≡ Some e) (prefix_more test x xs true is) at)
          (λ k there. taken_out test xs k e there)
      | false ↦ λ is.
          absurd (none-some e (subst (λ n. slice_get (take n (x ∷ xs)) m ≡ Some e)
          (prefix_more test x xs false is) at))
    ] refl

dropped : (k : ℕ) (es : List Event) (m : ℕ) → slice_get (drop k es) m ≡ slice_get es (k + m)
dropped zero es m = let number : m ≡ 0 + m = omega arith in ap (slice_get es) number
dropped (suc k) [] m = refl
dropped (suc k) (x ∷ es) m =
    let number : suc (k + m) ≡ suc k + m = omega arith in
    dropped k es m ∙ ap (slice_get (x ∷ es)) number

-- ROWS AS PLACES

module _ (all : Bool) (p : Pid) (label : Label) where
  abbrev wanted : Event → Bool
  wanted e = all || e.label.0 == label.0

  placed_in : (first : ℕ) (row : List Event) (m : ℕ) (e : Event) → slice_get row m ≡ Some e
      → wanted e ≡ true
      → IsAmong (places_of all p label first row) (p, first + m)
  placed_in first [] m e at is = absurd (none-some e at)
  placed_in first (x ∷ row) zero e at is =
      let one : wanted x ≡ true = ap wanted (same_Some x e at) ∙ is in
      let number : first ≡ first + 0 = omega arith in
      let place = λ (n : ℕ). (let y : Pid × ℕ = (p, n) in y) in (
        0,
        ap (λ b. slice_get (cond b (place first ∷ []) [] ++ places_of all p label
            (first + 1) row) 0) one
            ∙ ap (λ n. Some (place n)) number,
      )
  placed_in first (x ∷ row) (suc m) e at is =
      let rest = placed_in (first + 1) row m e at is in
      let number : first + 1 + m ≡ first + suc m = omega arith in
      let later = places_of all p label (first + 1) row in
      let there : slice_get later rest.0 ≡ Some (p, first + suc m) =
      rest.1 ∙ ap (λ n. (let y : Option (Pid × ℕ) = Some (p, n) in y)) number in
      elim (wanted x) as (λ b. IsAmong (cond b ((p, first) ∷ []) [] ++ later) (p, first + suc m)) [
        | true ↦ (suc rest.0, there)
        | false ↦ (rest.0, there)
      ]

  -- y is the place of an event of the row
  record IsPlaceOf (first : ℕ) (row : List Event) (y : Pid × ℕ) : Type 0 where
    offset : ℕ
    event : Event
    at : slice_get row offset ≡ Some event
    is_wanted : wanted event ≡ true
    pid : p ≡ y.0
    index : first + offset ≡ y.1

  one_more : (first : ℕ) (x : Event) (row : List Event) (y : Pid × ℕ) → IsPlaceOf (first + 1) row y
      → IsPlaceOf first (x ∷ row) y
  one_more first x row y h =
      let index = h.index in
      let offset = h.offset in
      let number : first + suc offset ≡ y.1 = omega arith in
      record {
        offset = suc offset;
        event = h.event;
        at = h.at;
        is_wanted = h.is_wanted;
        pid = h.pid;
        index = number;
      }

  own_place : (first : ℕ) (x : Event) (row : List Event) (k : ℕ) (y : Pid × ℕ) → wanted x ≡ true
      → slice_get ((p, first) ∷ places_of all p label (first + 1) row) k ≡ Some y
      → ((j : ℕ) → slice_get (places_of all p label (first + 1) row) j ≡ Some y
      → IsPlaceOf (first + 1) row y)
      → IsPlaceOf first (x ∷ row) y
  own_place first x row zero y is at rest =
      let same = same_Some (p, first) y at in
      let number : first + 0 ≡ first = omega arith in
      record {
        offset = 0;
        event = x;
        at = refl;
        is_wanted = is;
        pid = ap (λ (z : Pid × ℕ). z.0) same;
        index = number ∙ ap (λ (z : Pid × ℕ). z.1) same;
      }
  own_place first x row (suc k) y is at rest = one_more first x row y (rest k at)

  placed_out : (first : ℕ) (row : List Event) (k : ℕ) (y : Pid × ℕ)
      → slice_get (places_of all p label first row) k ≡ Some y → IsPlaceOf first row y
  placed_out first [] k y at = absurd (none-some y at)
  placed_out first (x ∷ row) k y at =
      elim (wanted x) as (λ b. wanted x ≡ b
      → slice_get (cond b ((p, first) ∷ []) [] ++ places_of all p label (first + 1) row) k ≡ Some y
      → IsPlaceOf first (x ∷ row) y) [
        | true ↦ λ is at. own_place first x row k y is at
            (λ j there. placed_out (first + 1) row j y there)
        | false ↦ λ _ at. one_more first x row y (placed_out (first + 1) row k y at)
      ] refl at

-- KINDS

stamp_row : (prev : ℕ) (e : Event) → is_stamp e ≡ true → e.serial.prev ≡ prev
    → is_in_row prev e ≡ true
stamp_row prev e stamps is =
    let other : not (is_take e) ≡ true = elim e.kind as (λ k.
    (let b : Bool = elim k [ kind.Send ↦ true | kind.Receive ↦ false | kind.Print ↦ true ] in b)
    ≡ true
    → not (let b : Bool = elim k [ kind.Send ↦ false | kind.Receive ↦ true | kind.Print ↦ false ] in
    b) ≡ true) [
      | kind.Receive ↦ λ h. h
      | _ ↦ λ h. refl
    ] stamps in
    and_from (not (is_take e)) (e.serial.prev == prev) other (eq-eqb e.serial.prev prev is)

-- THE NEXT PLACE OF A HOP

when_wanted : (across b : Bool) (x : Pid × ℕ) (y : Pid × ℕ)
    → cond b (Some x) (cond across (Some x) None) ≡ Some y → (x ≡ y) × ((across || b) ≡ true)
when_wanted true true x y h = (same_Some x y h, refl)
when_wanted true false x y h = (same_Some x y h, refl)
when_wanted false true x y h = (same_Some x y h, refl)
when_wanted false false x y h = absurd (none-some y h)

next_by_label : (across : Bool) (p : Pid) (j : ℕ) (received label : Label)
    → next_of across p (node_hop_by_label j received label)
    ≡ cond (received.0 == label.0) (Some (p, j)) (cond across (Some (p, j)) None)
next_by_label across p j received label =
    elim (received.0 == label.0) as (λ b.
    next_of across p (cond b (hop.After j) (hop.OtherLabel j received))
    ≡ cond b (Some (p, j)) (cond across (Some (p, j)) None)) [
      | true ↦ refl
      | false ↦ refl
    ]

module _ (streams : List Stream) (across : Bool) where
  -- the label of the receive is the one that the row is filtered by
  asked_label : (es : List Event) (j : ℕ) (d e : Event) → slice_get es j ≡ Some d
      → (across || ((label_there_or es j e.label).0 == e.label.0))
      ≡ (across || e.label.0 == d.label.0)
  asked_label es j d e at =
      ap (λ (o : Option Event). across || ((let l : Label = elim o as (λ _. Label) [
        | None ↦ e.label
        | Some y ↦ y.label
      ] in l).0 == e.label.0)) at
      ∙ ap (λ b. across || b) (eqb-swap d.label.0 e.label.0)

  -- ALL THAT FOLLOWS IS BELOW

  -- a stamp is in the row after the receive directly before its row
  in_row_behind : (es : List Event) (i : ℕ) (e : Event) (j : ℕ) (x : IsReceivedBefore es
      (row_first e.serial.prev es i) j
      e.serial.prev) → slice_get es i ≡ Some e → is_stamp e ≡ true → (m : ℕ) → j + 1 + m ≡ i
      → slice_get (row_ahead x.event.serial.this (drop (j + 1) es)) m ≡ Some e
  in_row_behind es i e j x at stamps m whole =
      let prev = e.serial.prev in
      let between = row_between prev es i in
      let index = x.index in
      subst (λ this. slice_get (row_ahead this (drop (j + 1) es)) m ≡ Some e) (sym x.count)
      (taken_in (λ d. is_in_row prev d) (drop (j + 1) es) m e
      (λ n d less there.
      let here : slice_get es (j + 1 + n) ≡ Some d = sym (dropped (j + 1) es n) ∙ there in
      elim (cases_order n m) [
        | inl same ↦
            let number : j + 1 + n ≡ i = omega arith in
            let one : d ≡ e = same_Some d e (sym here ∙ ap (slice_get es) number ∙ at) in
            ap (is_in_row prev) one ∙ stamp_row prev e stamps refl
        | inr other ↦ elim other [
          | inl earlier ↦
              let found = between (j + 1 + n) (omega arith) (omega arith) in
              ap (is_in_row prev) (same_Some d found.0 (sym here ∙ found.1)) ∙ found.2
          | inr later ↦ absurd (omega arith)
        ]
      ])
      (dropped (j + 1) es m ∙ ap (slice_get es) whole ∙ at))

  stamp_below : (p : Pid) (i : ℕ) (e : Event) (j : ℕ) → event_at streams p i ≡ Some e
      → is_stamp e ≡ true
      → take_before e.serial.prev (events_of streams p)
      (row_first e.serial.prev (events_of streams p) i) ≡ Some j
      → (across || ((label_there_or (events_of streams p) j e.label).0 == e.label.0)) ≡ true
      → IsAmong (children streams across (p, j)) (p, i)
  stamp_below p i e j at stamps before wanted =
      let es = events_of streams p in
      let prev = e.serial.prev in
      let x = received_is prev es (row_first prev es i) j before in
      let d = x.event in
      let index = x.index in
      let low = row_start_within prev es i in
      let m = i - (j + 1) in
      let whole : j + 1 + m ≡ i = omega arith in
      let row = row_ahead d.serial.this (drop (j + 1) es) in
      let place = placed_in across p d.label (j + 1) row m e
      (in_row_behind es i e j x at stamps m whole)
      (sym (asked_label es j d e x.at) ∙ wanted) in
      let own = λ (f : Event). children_of streams across p j f in
      let below : children streams across (p, j) ≡ places_of across p d.label (j + 1) row =
      ap (λ (o : Option Event). elim o as (λ _. List (Pid × ℕ)) [ None ↦ [] | Some f ↦ own f ]) x.at
      ∙ ap (λ (k : Kind). elim k as (λ _. List (Pid × ℕ)) [
        | kind.Send ↦ option_to_list (receive_place streams p j d)
        | kind.Receive ↦ places_of across p d.label (j + 1) row
        | kind.Print ↦ []
      ]) (kind_receive d.kind x.receive) in (
        place.0,
        ap (λ xs. slice_get xs place.0) below
            ∙ place.1 ∙ ap (λ n. (let y : Option (Pid × ℕ) = Some (p, n) in y)) whole,
      )

  receive_below : IsStreams streams → (p : Pid) (i : ℕ) (e : Event) (j : ℕ)
      → event_at streams p i ≡ Some e → is_stamp e ≡ false
      → send_of streams (take i (events_of streams p)) e ≡ Some j
      → IsAmong (children streams across (e.from, j)) (p, i)
  receive_below sound p i e j at receives sent =
      let x = sent_received streams sound.draft.own p i e j at (receive_kind e receives) sent in
      let q = e.from in
      let f = x.event in (
        0,
        ap (λ (o : Option Event). slice_get (elim o as (λ _. List (Pid × ℕ)) [
          | None ↦ []
          | Some g ↦ children_of streams across q j g
        ]) 0) x.at
            ∙ ap (λ (k : Kind). slice_get (elim k as (λ _. List (Pid × ℕ)) [
              | kind.Send ↦ option_to_list (receive_place streams q j f)
              | kind.Receive ↦ places_of across q f.label (j + 1)
                  (row_ahead f.serial.this (drop (j + 1) (events_of streams q)))
              | kind.Print ↦ []
            ]) 0) x.sends
            ∙ ap (λ (o : Option ℕ). slice_get (option_to_list
            (option_map (λ k. (let y : Pid × ℕ = (owner kind.Receive (content_of f), k) in y)) o))
            0) x.received
            ∙ ap (λ (r : Pid). (let y : Option (Pid × ℕ) = Some (r, i) in y)) x.receiver,
      )

  -- the stamp is below the receive directly before its row
  hop_below : (p : Pid) (i : ℕ) (e : Event) (x : Pid × ℕ) → event_at streams p i ≡ Some e
      → is_stamp e ≡ true → (o : Option ℕ)
      → take_before e.serial.prev (events_of streams p)
      (row_first e.serial.prev (events_of streams p) i) ≡ o
      → next_of across p (node_hop_by (events_of streams p) e.serial.prev e.label
      (row_first e.serial.prev (events_of streams p) i) o) ≡ Some x
      → IsAmong (children streams across x) (p, i)
  hop_below p i e x at stamps (Some j) is leads =
      let received = label_there_or (events_of streams p) j e.label in
      let parts = when_wanted across (received.0 == e.label.0) (p, j) x
      (sym (next_by_label across p j received e.label) ∙ leads) in
      subst (λ y. IsAmong (children streams across y) (p, i)) parts.0
      (stamp_below p i e j at stamps is parts.1)
  hop_below p i e x at stamps None is leads =
      let start = row_first e.serial.prev (events_of streams p) i in
      elim (start == 0 && e.serial.prev == 0) as (λ b.
      next_of across p (cond b hop.Begins (hop.Moved start)) ≡ Some x
      → IsAmong (children streams across x) (p, i)) [
        | true ↦ λ h. absurd (none-some x h)
        | false ↦ λ h. absurd (none-some x h)
      ] leads

  sent_below : IsStreams streams → (p : Pid) (i : ℕ) (e : Event) (x : Pid × ℕ) (o : Option ℕ)
      → event_at streams p i ≡ Some e → is_stamp e ≡ false
      → send_of streams (take i (events_of streams p)) e ≡ o
      → next_of across p (node_hop_to_send e.from o) ≡ Some x
      → IsAmong (children streams across x) (p, i)
  sent_below sound p i e x (Some j) at receives is leads =
      subst (λ y. IsAmong (children streams across y) (p, i)) (same_Some (e.from, j) x leads)
      (receive_below sound p i e j at receives is)
  sent_below sound p i e x None at receives is leads = absurd (none-some x leads)

pub all_below : (streams : List Stream) (across : Bool) (x y : Pid × ℕ) → IsStreams streams
    → next_at streams across y ≡ Some x → IsAmong (children streams across x) y
all_below streams across x y sound leads =
    let p = y.0 in
    let i = y.1 in
    let es = events_of streams p in
    option_and_then_some (λ (e : Event). next_of across p (node_hop_of streams p i e))
    (event_at streams p i) x leads
    (λ e at given.
    let prev = e.serial.prev in
    let sent = send_of streams (take i es) e in
    elim (is_stamp e) as (λ b. is_stamp e ≡ b
    → next_of across p (cond b (hop_of_stamp es i e) (node_hop_to_send e.from sent))
    ≡ Some x → IsAmong (children streams across x) y) [
      | true ↦ λ stamps is. hop_below streams across p i e x at stamps
          (take_before prev es (row_first prev es i)) refl is
      | false ↦ λ receives is. sent_below streams across sound p i e x sent at receives refl is
    ] refl given)

-- ALL THAT IS BELOW FOLLOWS

row_stamps : (prev : ℕ) (e : Event) → is_in_row prev e ≡ true → is_stamp e ≡ true
row_stamps prev e is =
    let other = (and_parts (not (is_take e)) (e.serial.prev == prev) is).0 in
    elim e.kind as (λ k.
    not (let b : Bool = elim k [ kind.Send ↦ false | kind.Receive ↦ true | kind.Print ↦ false ] in
    b) ≡ true
    → (let b : Bool = elim k [ kind.Send ↦ true | kind.Receive ↦ false | kind.Print ↦ true ] in b)
    ≡ true) [
      | kind.Receive ↦ λ h. h
      | _ ↦ λ h. refl
    ] other

wanted_leads : (across b : Bool) (x : Pid × ℕ) → (across || b) ≡ true
    → cond b (Some x) (cond across (Some x) None) ≡ Some x
wanted_leads true true x h = refl
wanted_leads true false x h = refl
wanted_leads false true x h = refl
wanted_leads false false x h = absurd (false≢true h)

listed_one : (o : Option (Pid × ℕ)) (k : ℕ) (y : Pid × ℕ) → slice_get (option_to_list o) k ≡ Some y
    → o ≡ Some y
listed_one None k y h = absurd (none-some y h)
listed_one (Some x) zero y h = h
listed_one (Some x) (suc k) y h = absurd (none-some y h)

module _ (streams : List Stream) (across : Bool) where
  -- the next place of a stamp is that of its hop
  stamp_next : (p : Pid) (i : ℕ) (e : Event) → event_at streams p i ≡ Some e → is_stamp e ≡ true
      → next_at streams across (p, i) ≡ next_of across p (hop_of_stamp (events_of streams p) i e)
  stamp_next p i e at stamps =
      ap (option_and_then (λ (f : Event). next_of across p (node_hop_of streams p i f))) at
      ∙ ap (λ b. next_of across p (cond b (hop_of_stamp (events_of streams p) i e)
      (node_hop_to_send e.from (send_of streams (take i (events_of streams p)) e)))) stamps

  receive_next : (p : Pid) (i : ℕ) (e : Event) → event_at streams p i ≡ Some e → is_stamp e ≡ false
      → next_at streams across (p, i)
      ≡ next_of across p
      (node_hop_to_send e.from (send_of streams (take i (events_of streams p)) e))
  receive_next p i e at receives =
      ap (option_and_then (λ (f : Event). next_of across p (node_hop_of streams p i f))) at
      ∙ ap (λ b. next_of across p (cond b (hop_of_stamp (events_of streams p) i e)
      (node_hop_to_send e.from (send_of streams (take i (events_of streams p)) e)))) receives

  -- the row of a stamp in the row after a receive begins right after the receive
  row_begins : (p : Pid) (j : ℕ) (d : Event) (m : ℕ) (e : Event) → event_at streams p j ≡ Some d
      → is_take d ≡ true
      → slice_get (row_ahead d.serial.this (drop (j + 1) (events_of streams p))) m ≡ Some e
      → row_first d.serial.this (events_of streams p) (j + 1 + m) ≡ suc j
  row_begins p j d m e at receive there =
      let es = events_of streams p in
      let this = d.serial.this in
      let i = j + 1 + m in
      let x = taken_out (λ f. is_in_row this f) (drop (j + 1) es) m e there in
      let here : slice_get es i ≡ Some e = sym (dropped (j + 1) es m) ∙ x.at in
      let long = slice_get_within es i e here in
      let between : IsRowBetween this es (j + 1) i = λ z low high.
      let n = z - (j + 1) in
      let number : j + 1 + n ≡ z = omega arith in
      let f = get_or es z blank in
      let found : slice_get es z ≡ Some f = at_get_or es z blank (omega arith) in (
        f,
        found,
        x.all n f (omega arith) (dropped (j + 1) es n ∙ ap (slice_get es) number
            ∙ found),
      ) in
      let next : j + 1 ≡ suc j = omega arith in
      row_passes this es (j + 1) i (omega arith) between ∙ ap (row_first this es) next
      ∙ row_stops this es j d at receive

  -- the hop of a stamp in the row after a receive leads to the receive
  row_leads : (p : Pid) (j : ℕ) (d : Event) (m : ℕ) (e : Event) → event_at streams p j ≡ Some d
      → is_take d ≡ true
      → slice_get (row_ahead d.serial.this (drop (j + 1) (events_of streams p))) m ≡ Some e
      → (across || e.label.0 == d.label.0) ≡ true → next_at streams across (p, j + 1 + m)
      ≡ Some (p, j)
  row_leads p j d m e at receive there wanted =
      let es = events_of streams p in
      let this = d.serial.this in
      let i = j + 1 + m in
      let x = taken_out (λ f. is_in_row this f) (drop (j + 1) es) m e there in
      let here : slice_get es i ≡ Some e = sym (dropped (j + 1) es m) ∙ x.at in
      let own = x.all m e (omega arith) x.at in
      let prev : e.serial.prev ≡ this =
      eqb-true e.serial.prev this (and_parts (not (is_take e)) (e.serial.prev == this) own).1 in
      let received = label_there_or es j e.label in
      let asked = asked_label streams across es j d e at ∙ wanted in
      let by = λ (k : ℕ). node_hop_by es this e.label k (take_before this es k) in
      let is : hop_of_stamp es i e ≡ node_hop_by_label j received e.label =
      ap (λ (v : ℕ). node_hop_by es v e.label (row_first v es i)
      (take_before v es (row_first v es i))) prev
      ∙ ap by (row_begins p j d m e at receive there)
      ∙ ap (node_hop_by es this e.label (suc j)) (received_at this es j d at receive refl) in
      stamp_next p i e here (row_stamps this e own) ∙ ap (next_of across p) is
      ∙ next_by_label across p j received e.label
      ∙ wanted_leads across (received.0 == e.label.0) (p, j) asked

  -- the hop of a send's receive leads to the send
  send_leads : IsStreams streams → (q : Pid) (j : ℕ) (d : Event) (y : Pid × ℕ)
      → event_at streams q j ≡ Some d → d.kind ≡ kind.Send → receive_place streams q j d ≡ Some y
      → next_at streams across y ≡ Some (q, j)
  send_leads sound q j d y at sends is =
      let p = owner kind.Receive (content_of d) in
      let place = λ (k : ℕ). (let z : Pid × ℕ = (p, k) in z) in
      let found = mapped place
      (other_end_of streams (take j (events_of streams q)) d) y is in
      let i = found.0 in
      let x = received_sent streams sound.draft.own q j d i at sends found.1 in
      let e = x.event in
      ap (next_at streams across) (sym found.2)
      ∙ receive_next p i e x.at (receive_unstamped e x.receives)
      ∙ ap (λ (o : Option ℕ). next_of across p (node_hop_to_send e.from o)) x.sent
      ∙ ap (λ (r : Pid). (let z : Option (Pid × ℕ) = Some (r, j) in z)) x.sender

  event_leads : IsStreams streams → (p : Pid) (j : ℕ) (d : Event) (k : ℕ) (y : Pid × ℕ)
      → event_at streams p j ≡ Some d → slice_get (children_of streams across p j d) k ≡ Some y
      → next_at streams across y ≡ Some (p, j)
  event_leads sound p j d k y at there =
      let row = row_ahead d.serial.this (drop (j + 1) (events_of streams p)) in
      let listed = λ (c : Kind). (let xs : List (Pid × ℕ) = elim c as (λ _. List (Pid × ℕ)) [
        | kind.Send ↦ option_to_list (receive_place streams p j d)
        | kind.Receive ↦ places_of across p d.label (j + 1) row
        | kind.Print ↦ []
      ] in xs) in
      elim d.kind as (λ c. d.kind ≡ c → slice_get (listed c) k ≡ Some y
      → next_at streams across y ≡ Some (p, j)) [
        | kind.Send ↦ λ is h.
            send_leads sound p j d y at is (listed_one (receive_place streams p j d) k y h)
        | kind.Receive ↦ λ is h.
            let x = placed_out across p d.label (j + 1) row k y h in
            let place : (let z : Pid × ℕ = (p, j + 1 + x.offset) in z) ≡ y =
            λ n. (x.pid n, x.index n) in
            ap (next_at streams across) (sym place)
            ∙ row_leads p j d x.offset x.event at (receive_is d is) x.at x.is_wanted
        | kind.Print ↦ λ is h. absurd (none-some y h)
      ] refl there

pub all_lead : (streams : List Stream) (across : Bool) (x y : Pid × ℕ) (k : ℕ) → IsStreams streams
    → slice_get (children streams across x) k ≡ Some y
    → next_at streams across y ≡ Some x
all_lead streams across x y k sound there =
    elim (event_at streams x.0 x.1) as (λ o. event_at streams x.0 x.1 ≡ o
    → slice_get (elim o as (λ _. List
    (Pid × ℕ)) [ None ↦ [] | Some d ↦ children_of streams across x.0 x.1 d ]) k ≡ Some y
    → next_at streams across y ≡ Some x) [
      | None ↦ λ _ h. absurd (none-some y h)
      | Some d ↦ λ at h. event_leads streams across sound x.0 x.1 d k y at h
    ] refl there
