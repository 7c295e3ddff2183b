-- If stamps lead, the keys of a process's events rise by index: a height never falls, and an event
-- at the height of the event before it is a receive, whose rank is no lower and whose place is
-- later. So a process's events in the order and its events among the items are two rising lists
-- with the same members.
use Rattle.std.proofs.Common.{◌≡◌, ℕ, zero, suc, ◌+◌, ◌<◌, ◌≤◌, Bool, true, false, cond}
use Rattle.std.proofs.Common.{if◌then◌else◌, inl, inr, List, [], ◌∷◌, ◌++◌, map, take, length}
use Rattle.std.proofs.Common.{filter, Some, option_map, slice_get, refl, sym, ◌∙◌, ap, subst, arith}
use Rattle.std.specs.List.{AllByRecursion}
use Rattle.std.specs.Ordering.{nat_cmp, ordering_then, is_lt}
use Rattle.std.proofs.lemmas.Bool.{cases_order}
use Rattle.std.proofs.lemmas.List.{append-nil}
use Rattle.std.proofs.lemmas.List.Elements.{filter-append}
use Rattle.std.proofs.lemmas.List.Sorted.{IsPermutation-sym}
use Rattle.std.proofs.lemmas.Option.{none-some, same_Some, slice_get-get_or}
use Rattle.st_core.specs.declared.types.Pid.{Pid}
use Rattle.st_core.specs.declared.types.Event.{Event}
use Rattle.st_core.specs.Pid.{pid_eq, pid_cmp, IsBelow, IsRising}
use Rattle.st_core.specs.Run.{Stream, pids_of}
use Rattle.st_core.specs.Streams.{stream_of, events_of}
use Rattle.st_core.proofs.ForCallers.{pid_eq-true, pid_eq-swap, pid_cmp-same, IsBelow-apart}
use Rattle.st_core.proofs.ForCallers.{nat_cmp-same, nat_cmp-below}
use Rattle.st_pair.specs.Places.{event_at, is_stamp}
use Rattle.st_pair.proofs.ForCallers.{blank, events_in}
use Rattle.st_order.specs.declared.item.Item.{Item}
use Rattle.st_order.specs.declared.item.Item.TheVariants as item
use Rattle.st_order.specs.Items.{greatest, height, is_hidden, items, items_among, items_at}
use Rattle.st_order.specs.Items.{items_from}
use Rattle.st_order.specs.Order.{Key, comes_before, key_by, key_cmp, KeysRise, IsOrder}
use Rattle.st_order.specs.Turn.{in_turn, is_event_of, StampsLead}
use Rattle.st_order.proofs.Keys.{comes_before_is}
use Rattle.st_order.proofs.OneOrder.{Among, members, same_rising}

-- KEYS

-- k and l have the same pid, and k's height, rank and place make it come before l
record IsUnder (k l : Key) : Type 0 where
  height : k.height ≤ l.height
  rank : k.height ≡ l.height → k.rank ≤ l.rank
  pid : k.pid ≡ l.pid
  place : k.place < l.place

under_less : (k l : Key) → IsUnder k l → is_lt (key_cmp k l) ≡ true
under_less k l u =
    let pids = ordering_then (pid_cmp k.pid l.pid) (nat_cmp k.place l.place) in
    let ranks = ordering_then (nat_cmp k.rank l.rank) pids in
    let low = u.height in
    elim (cases_order k.height l.height) [
      | inl same ↦
          let rank = u.rank same in
          ap (λ o. is_lt (ordering_then o ranks)) (nat_cmp-same k.height l.height same)
          ∙ elim (cases_order k.rank l.rank) [
            | inl even ↦ ap (λ o. is_lt (ordering_then o pids)) (nat_cmp-same k.rank l.rank even)
                ∙ ap (λ o. is_lt (ordering_then o (nat_cmp k.place l.place)))
                (ap (pid_cmp k.pid) (sym u.pid) ∙ pid_cmp-same k.pid)
                ∙ ap is_lt (nat_cmp-below k.place l.place u.place)
            | inr (inl less) ↦ ap (λ o. is_lt (ordering_then o pids))
                (nat_cmp-below k.rank l.rank less)
            | inr (inr more) ↦ absurd (omega arith)
          ]
      | inr (inl less) ↦ ap (λ o. is_lt (ordering_then o ranks))
          (nat_cmp-below k.height l.height less)
      | inr (inr more) ↦ absurd (omega arith)
    ]

-- HEIGHTS

-- the greatest count of the first n events
abbrev pub tallest : List Event → ℕ → ℕ
tallest es n = greatest (map (λ e. e.serial.this) (take n es))

pub tallest_grows : (es : List Event) (m n : ℕ) → m ≤ n → tallest es m ≤ tallest es n
tallest_grows es zero n less = omega arith
tallest_grows (e ∷ es) (suc m) (suc n) less = let rest = tallest_grows es m n (omega arith) in
    omega arith
tallest_grows es m n less = omega arith

pub tallest_has : (es : List Event) (n j : ℕ) (e : Event) → slice_get es j ≡ Some e → j < n
    → e.serial.this ≤ tallest es n
tallest_has [] n j e at less = absurd (none-some e at)
tallest_has (d ∷ es) zero j e at less = absurd (omega arith)
tallest_has (d ∷ es) (suc n) zero e at less =
    let same = ap (λ (x : Event). x.serial.this) (same_Some d e at) in omega arith
tallest_has (d ∷ es) (suc n) (suc j) e at less =
    let rest = tallest_has es n j e at (omega arith) in omega arith

tallest_below : (es : List Event) (n this : ℕ) → 0 < this
    → ((j : ℕ) (d : Event) → j < n → slice_get es j ≡ Some d → d.serial.this < this)
    → tallest es n < this
tallest_below es zero this some each = some
tallest_below [] (suc n) this some each = some
tallest_below (d ∷ es) (suc n) this some each =
    let here = each 0 d (omega arith) refl in
    let rest = tallest_below es n this some (λ j x less at. each (suc j) x (omega arith) at) in
    omega arith

-- THE EVENTS OF ONE PROCESS

rank_of : (b : Bool) → (if b then 0 else 1) ≤ 1
rank_of true = omega arith
rank_of false = omega arith

module _ (streams : List Stream) (p : Pid) (lead : StampsLead streams p) where
  abbrev events : List Event
  events = events_of streams p

  -- a stamp is higher than each event before it
  stamp_higher : (i j : ℕ) (d e : Event) → i < j → event_at streams p i ≡ Some d
      → event_at streams p j ≡ Some e → is_stamp e ≡ true → height streams p i < height streams p j
  stamp_higher i j d e less at_d at_e stamp =
      let above = lead i j d e less at_d at_e stamp in
      let own = tallest_has events (j + 1) j e at_e (omega arith) in
      let low = tallest_below events (i + 1) e.serial.this (omega arith)
      (λ k x within at. lead k j x e (omega arith) at at_e stamp) in
      omega arith

  event_under : (i j : ℕ) (d e : Event) → i < j → event_at streams p i ≡ Some d
      → event_at streams p j ≡ Some e
      → IsUnder (key_by streams (item.Reported p i) d) (key_by streams (item.Reported p j) e)
  event_under i j d e less at_d at_e = record {
    height = tallest_grows events (i + 1) (j + 1) (omega arith);
    rank = λ same. elim (is_stamp e) as (λ b. is_stamp e ≡ b
        → (if is_stamp d then 0 else 1) ≤ (if b then 0 else 1)) [
          | true ↦ λ stamp. let higher = stamp_higher i j d e less at_d at_e stamp in
              absurd (omega arith)
          | false ↦ λ receive. rank_of (is_stamp d)
        ] refl;
    pid = refl;
    place = omega arith;
  }

  event_before : (i j : ℕ) (d e : Event) → i < j → event_at streams p i ≡ Some d
      → event_at streams p j ≡ Some e
      → comes_before streams (item.Reported p i) (item.Reported p j) ≡ true
  event_before i j d e less at_d at_e =
      let x = item.Reported p i in
      let y = item.Reported p j in
      comes_before_is streams x y (key_by streams x d) (key_by streams y e)
      (ap (option_map (key_by streams x)) at_d) (ap (option_map (key_by streams y)) at_e)
      ∙ under_less (key_by streams x d) (key_by streams y e) (event_under i j d e less at_d at_e)

  before_all : (i j n : ℕ) → i < j → j + n ≤ length events
      → AllByRecursion (λ y. comes_before streams (item.Reported p i) y ≡ true) (in_turn p j n)
  before_all i j zero less within = tt
  before_all i j (suc n) less within =
      let at_i = slice_get-get_or events i blank (omega arith) in
      let at_j = slice_get-get_or events j blank (omega arith) in
      (event_before i j _ _ less at_i at_j, before_all i (j + 1) n (omega arith) (omega arith))

  turn_rises : (i n : ℕ) → i + n ≤ length events → KeysRise streams (in_turn p i n)
  turn_rises i zero within = tt
  turn_rises i (suc n) within =
      (before_all i (i + 1) n (omega arith) (omega arith), turn_rises (i + 1) n (omega arith))

-- THE EVENTS OF ONE PROCESS AMONG ALL ITEMS

item_here : (streams : List Stream) (p q : Pid) (i : ℕ) (e : Event) (rest : List Item)
    → filter (is_event_of p) (items_at streams q i e ++ rest)
    ≡ cond (pid_eq q p) (item.Reported q i ∷ filter (is_event_of p) rest)
    (filter (is_event_of p) rest)
item_here streams p q i e rest = elim (is_hidden streams e) as
    (λ b. filter (is_event_of p)
    (cond b (item.Hidden q i ∷ item.Reported q i ∷ []) (item.Reported q i ∷ []) ++ rest)
    ≡ cond (pid_eq q p) (item.Reported q i ∷ filter (is_event_of p) rest)
    (filter (is_event_of p) rest)) [
      | true ↦ refl
      | false ↦ refl
    ]

module _ (all : List Stream) (p : Pid) where
  own_items : (q : Pid) (i : ℕ) (es : List Event) → pid_eq q p ≡ true
      → filter (is_event_of p) (items_from all q i es) ≡ in_turn q i (length es)
  own_items q i [] own = refl
  own_items q i (e ∷ es) own =
      let rest = items_from all q (i + 1) es in
      item_here all p q i e rest
      ∙ ap (λ (b : Bool). cond b (item.Reported q i ∷ filter (is_event_of p) rest)
      (filter (is_event_of p) rest)) own
      ∙ ap (λ ys. item.Reported q i ∷ ys) (own_items q (i + 1) es own)

  no_items : (q : Pid) (i : ℕ) (es : List Event) → pid_eq q p ≡ false
      → filter (is_event_of p) (items_from all q i es) ≡ []
  no_items q i [] other = refl
  no_items q i (e ∷ es) other =
      let rest = items_from all q (i + 1) es in
      item_here all p q i e rest
      ∙ ap (λ (b : Bool). cond b (item.Reported q i ∷ filter (is_event_of p) rest)
      (filter (is_event_of p) rest)) other
      ∙ no_items q (i + 1) es other

  none_above : (rest : List Stream) → AllByRecursion (IsBelow p) (pids_of rest)
      → filter (is_event_of p) (items_among all rest) ≡ []
  none_above [] above = refl
  none_above (s ∷ rest) above =
      filter-append (is_event_of p) (items_from all s.pid 0 s.events) (items_among all rest)
      ∙ ap (λ ys. ys ++ filter (is_event_of p) (items_among all rest))
      (no_items s.pid 0 s.events (pid_eq-swap s.pid p ∙ IsBelow-apart p s.pid above.0))
      ∙ none_above rest above.1

  -- p's events among the items of streams whose pids rise are in turn
  items_turn : (some : List Stream) → IsRising (pids_of some)
      → filter (is_event_of p) (items_among all some) ≡ in_turn p 0 (length (events_of some p))
  items_turn [] rising = refl
  items_turn (s ∷ rest) rising =
      let first = items_from all s.pid 0 s.events in
      let later = items_among all rest in
      filter-append (is_event_of p) first later
      ∙ elim (pid_eq s.pid p) as (λ b. pid_eq s.pid p ≡ b
      → filter (is_event_of p) first ++ filter (is_event_of p) later
      ≡ in_turn p 0 (length (events_in (cond b (Some s) (stream_of rest p))))) [
        | true ↦ λ own.
            let same = pid_eq-true s.pid p own in
            let above = subst (λ q. AllByRecursion (IsBelow q) (pids_of rest)) same rising.0 in
            ap (λ ys. ys ++ filter (is_event_of p) later) (own_items s.pid 0 s.events own)
            ∙ ap (λ ys. in_turn s.pid 0 (length s.events) ++ ys) (none_above rest above)
            ∙ append-nil (in_turn s.pid 0 (length s.events))
            ∙ ap (λ q. in_turn q 0 (length s.events)) same
        | false ↦ λ other. ap (λ ys. ys ++ filter (is_event_of p) later)
            (no_items s.pid 0 s.events other)
            ∙ items_turn rest rising.1
      ] refl

-- WHAT IS KEPT OF A LIST

all_kept : (P : Item → Type 0) (test : Item → Bool) (xs : List Item) → AllByRecursion P xs
    → AllByRecursion P (filter test xs)
all_kept P test [] all = tt
all_kept P test (x ∷ xs) all =
    elim (test x) as (λ b. AllByRecursion P (cond b (x ∷ filter test xs) (filter test xs))) [
      | true ↦ (all.0, all_kept P test xs all.1)
      | false ↦ all_kept P test xs all.1
    ]

kept_rises : (streams : List Stream) (test : Item → Bool) (xs : List Item) → KeysRise streams xs
    → KeysRise streams (filter test xs)
kept_rises streams test [] rises = tt
kept_rises streams test (x ∷ xs) rises = elim (test x) as
    (λ b. KeysRise streams (cond b (x ∷ filter test xs) (filter test xs))) [
      | true ↦ (
        all_kept (λ y. comes_before streams x y ≡ true) test xs rises.0,
        kept_rises streams test xs rises.1,
      )
      | false ↦ kept_rises streams test xs rises.1
    ]

among_kept : (test : Item → Bool) (xs : List Item) (z : Item) → test z ≡ true → Among z xs
    → Among z (filter test xs)
among_kept test [] z passes m = m
among_kept test (x ∷ xs) z passes (inl same) =
    let here = ap test (sym same) ∙ passes in
    subst (Among z) (ap (λ (b : Bool). cond b (x ∷ filter test xs) (filter test xs)) (sym here))
    (inl same)
among_kept test (x ∷ xs) z passes (inr m) =
    let rest = among_kept test xs z passes m in
    elim (test x) as (λ b. Among z (cond b (x ∷ filter test xs) (filter test xs))) [
      | true ↦ inr rest
      | false ↦ rest
    ]

each_kept : (test : Item → Bool) (ys xs : List Item) → AllByRecursion (λ z. Among z ys) xs
    → AllByRecursion (λ z. Among z (filter test ys)) (filter test xs)
each_kept test ys [] all = tt
each_kept test ys (x ∷ xs) all = elim (test x) as (λ b. test x ≡ b
    → AllByRecursion (λ z. Among z (filter test ys))
    (cond b (x ∷ filter test xs) (filter test xs))) [
      | true ↦ λ passes. (among_kept test ys x passes all.0, each_kept test ys xs all.1)
      | false ↦ λ _. each_kept test ys xs all.1
    ] refl

-- the order lists the events of p in turn
pub keeps_turn : (streams : List Stream) (xs : List Item) (p : Pid) → IsRising (pids_of streams)
    → IsOrder streams xs
    → StampsLead streams p → filter (is_event_of p) xs ≡ in_turn p 0 (length (events_of streams p))
keeps_turn streams xs p rising order lead =
    let test = is_event_of p in
    let all = items streams in
    let n = length (events_of streams p) in
    let turn = items_turn streams p streams rising in
    let sorted = subst (KeysRise streams) (sym turn)
    (turn_rises streams p lead 0 n (omega arith)) in
    same_rising streams (filter test xs) (filter test all) (kept_rises streams test xs order.rises)
    sorted (each_kept test all xs (members all xs order.same))
    (each_kept test xs all (members xs all (IsPermutation-sym all xs order.same)))
    ∙ turn
