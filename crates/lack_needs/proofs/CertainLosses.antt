-- By the counts, the stamp that one event tells of is after event i - 1 and not after event i.
-- Event i - 1, or the stamp that the other event tells of, leaves another prev than that stamp
-- has, and a count up to there is above this prev. So a receive between was lost.
use Rattle.std.proofs.Common.{[], ◌≡◌, inl, inr, ℕ, zero, suc, ◌<◌, ◌≤◌, ◌==◌, ◌&&◌, nat_lt}
use Rattle.std.proofs.Common.{Bool, true, false, cond, List, ◌∷◌, length, take, Option, Some}
use Rattle.std.proofs.Common.{None, slice_get, get_or, refl, sym, ◌∙◌, ap, arith}
use Rattle.std.proofs.lemmas.Bool.{and_parts, cases_lt, cases_order, eqb-true, false≢true}
use Rattle.std.proofs.lemmas.Bool.{eq-eqb, ltb-false, ltb-true, not-true, or_cases}
use Rattle.std.proofs.lemmas.List.{length-take-le}
use Rattle.std.proofs.lemmas.Option.{none-some, same_Some, slice_get_within, slice_get-get_or}
use Rattle.st_core.specs.declared.types.Event.{Event}
use Rattle.st_core.specs.Laws.{greatest_count, prev_after}
use Rattle.st_pair.specs.Places.{is_stamp}
use Rattle.st_pair.proofs.ForCallers.{blank}
use Rattle.st_plan.specs.Marks.{Marked, told_events}
use Rattle.st_plan.proofs.ForCallers.{greatest_has}
use Rattle.lack_laws.proofs.ForCallers.{event_of_mark, events, GoOn, told_at}
use Rattle.lack_needs.specs.AllRuns.{HasLostReceive}
use Rattle.lack_needs.specs.Losses.{event_before, is_behind, is_up_to, leaves_other, may_leave}
use Rattle.lack_needs.proofs.LostReceives.{before_stamp, left_of, lost, told_grows, told_most}
use Rattle.lack_needs.proofs.LostReceives.{told_next}

-- a stamp with prev v and count c is among the events
pub record IsStamped (ms : List Marked) (v c : ℕ) : Type 0 where
  pub index : ℕ
  pub marked : Marked
  pub at : slice_get ms index ≡ Some marked
  pub stamps : is_stamp marked.event ≡ true
  pub prev : marked.event.serial.prev ≡ v
  pub count : marked.event.serial.this ≡ c

abbrev mark : Event → Marked
mark e = record { event = e; told = true }

-- event i of the told ones is e, and i told events are before it
record IsInTurn (ms : List Marked) (i : ℕ) (e : Event) : Type 0 where
  index : ℕ
  at : slice_get ms index ≡ Some (mark e)
  before : length (told_events (take index ms)) ≡ i

in_turn : (ms : List Marked) (i : ℕ) (e : Event) → slice_get (told_events ms) i ≡ Some e
    → IsInTurn ms i e
in_turn ms i e at =
    let place = told_at ms i e at in
    let within = slice_get_within (told_events ms) i e at in
    record {
      index = place.index;
      at = place.at;
      before = ap length place.before ∙ length-take-le i (told_events ms) (omega arith);
    }

abbrev is_next : Option Event → ℕ → Bool
is_next next c = elim next [ None ↦ false | Some n ↦ is_stamp n && n.serial.this == c ]

record IsNext (next : Option Event) (c : ℕ) : Type 0 where
  event : Event
  is : next ≡ Some event
  stamps : is_stamp event ≡ true
  count : event.serial.this ≡ c

next_there : (next : Option Event) (c : ℕ) → is_next next c ≡ true → IsNext next c
next_there None c is = absurd (false≢true is)
next_there (Some n) c is =
    let parts = and_parts (is_stamp n) (n.serial.this == c) is in
    record { event = n; is = refl; stamps = parts.0; count = eqb-true n.serial.this c parts.1 }

past_end : {A : Type 0} (xs : List A) (i : ℕ) → slice_get xs i ≡ None → length xs ≤ i
past_end [] i none = omega arith
past_end (x ∷ xs) zero none = absurd (none-some x (sym none))
past_end (x ∷ xs) (suc i) none = let rest = past_end xs i none in omega arith

module _ (ms : List Marked) (go_on : GoOn ms) where
  above : (a b : ℕ) (x y : Marked) → a < b → slice_get ms a ≡ Some x → slice_get ms b ≡ Some y
      → is_stamp y.event ≡ true → x.event.serial.this < y.event.serial.this
  above a b x y less at_x at_y stamps =
      let count = (go_on b y at_y stamps).count in
      omega (arith, greatest_has (events ms) b a x.event (event_of_mark ms a x at_x) less)

  not_after : (a b : ℕ) (x y : Marked) → slice_get ms a ≡ Some x → slice_get ms b ≡ Some y
      → is_stamp y.event ≡ true → y.event.serial.this ≤ x.event.serial.this → b ≤ a
  not_after a b x y at_x at_y stamps most = elim (cases_lt a b) [
    | inl less ↦ let rises = above a b x y less at_x at_y stamps in absurd (omega arith)
    | inr not_less ↦ omega arith
  ]

  is_first : (a b : ℕ) (x y : Marked) → slice_get ms a ≡ Some x → slice_get ms b ≡ Some y
      → is_stamp x.event ≡ true → x.event.serial.this < y.event.serial.this → a < b
  is_first a b x y at_x at_y stamps less = elim (cases_order a b) [
    | inl here ↦
        let same = ap (λ (m : Marked). m.event.serial.this)
        (same_Some x y (sym at_x ∙ ap (slice_get ms) here ∙ at_y)) in
        absurd (omega arith)
    | inr (inl first) ↦ first
    | inr (inr last) ↦ let rises = above b a y x last at_y at_x stamps in absurd (omega arith)
  ]

  -- THE STAMP

  module _ (i v c : ℕ) (stamp : IsStamped ms v c) where
    up_to : (next : Option Event) → slice_get (told_events ms) i ≡ next → is_up_to next c ≡ true
        → length (told_events (take stamp.index ms)) ≤ i
    up_to None none within =
        let end = past_end (told_events ms) i none in
        let most = told_most ms stamp.index in
        omega arith
    up_to (Some n) at within =
        let t = in_turn ms i n at in
        let high = ltb-false n.serial.this c (not-true (nat_lt n.serial.this c) within) in
        let count = stamp.count in
        let most = not_after t.index stamp.index (mark n) stamp.marked t.at stamp.at stamp.stamps
        (omega arith) in
        omega (arith, told_grows ms stamp.index t.index most, t.before)

    behind : (j : ℕ) (b : Event) (at_b : slice_get (told_events ms) j ≡ Some b) → i ≡ suc j
        → (next : Option Event) → slice_get (told_events ms) i ≡ next
        → is_behind (Some b) next c ≡ true → (in_turn ms j b at_b).index < stamp.index
    behind j b at_b here next at_n is =
        let t = in_turn ms j b at_b in
        let count = stamp.count in
        elim (or_cases (is_next next c) (is_stamp b && nat_lt b.serial.this c) is) [
          | inl it ↦
              let n = next_there next c it in
              let u = in_turn ms i n.event (at_n ∙ n.is) in
              let high = n.count in
              let order = not_after stamp.index u.index stamp.marked (mark n.event) stamp.at u.at
              n.stamps (omega arith) in
              let before_b = t.before in
              let before_n = u.before in
              elim (cases_lt t.index u.index) [
                | inl less ↦ omega arith
                | inr not_less ↦
                    absurd (omega (arith, told_grows ms u.index t.index (omega arith)))
              ]
          | inr above_b ↦
              let parts = and_parts (is_stamp b) (nat_lt b.serial.this c) above_b in
              let less = ltb-true b.serial.this c parts.1 in
              is_first t.index stamp.index (mark b) stamp.marked t.at stamp.at parts.0 (omega arith)
        ]

    -- WHAT IS BEFORE IT

    -- from an event on that is after told event i - 1, prev v isn't left and isn't a new trace's
    record IsStart : Type 0 where
      index : ℕ
      marked : Marked
      at : slice_get ms index ≡ Some marked
      other : ¬ (prev_after (marked.event ∷ []) ≡ v)
      high : v < greatest_count (take (suc index) (events ms))
      before : index < stamp.index
      turn : i ≤ length (told_events (take (suc index) ms))

    start_lost : IsStart → length (told_events (take stamp.index ms)) ≤ i → HasLostReceive i v ms
    start_lost s end =
        lost ms s.index stamp.index i v
        (before_stamp ms go_on s.index v s.marked s.at s.other s.high stamp.index stamp.marked
        s.before stamp.at stamp.stamps stamp.prev)
        s.turn end

    -- event i - 1 leaves another prev, and event n before i has a count above v
    told_start : (j n : ℕ) (b f : Event) (at_b : slice_get (told_events ms) j ≡ Some b)
        → slice_get (told_events ms) n ≡ Some f → i ≡ suc j → n < i → v < f.serial.this
        → ¬ (prev_after (b ∷ []) ≡ v) → (in_turn ms j b at_b).index < stamp.index → IsStart
    told_start j n b f at_b at_f here less higher other before =
        let t = in_turn ms j b at_b in
        let u = in_turn ms n f at_f in
        let next = told_next ms t.index (mark b) t.at refl in
        let before_b = t.before in
        let before_f = u.before in
        let order : u.index < suc t.index = elim (cases_lt t.index u.index) [
          | inl later ↦
              absurd (omega (arith, told_grows ms (suc t.index) u.index (omega arith)))
          | inr not_later ↦ omega arith
        ] in
        let known = greatest_has (events ms) (suc t.index) u.index f
        (event_of_mark ms u.index (mark f) u.at) order in
        record {
          index = t.index;
          marked = mark b;
          at = t.at;
          other = other;
          high = omega arith;
          before = before;
          turn = omega arith;
        }

    module _ (u d : ℕ) (w : IsStamped ms u d) (other : ¬ (u ≡ v)) (higher : v < d)
        (lower : d < c) where
      known : (n : ℕ) → w.index < n → v < greatest_count (take n (events ms))
      known n less =
          let count = w.count in
          let has = greatest_has (events ms) n w.index w.marked.event
          (event_of_mark ms w.index w.marked w.at) less in
          omega arith

      at_stamp : i ≤ length (told_events (take (suc w.index) ms)) → IsStart
      at_stamp turn =
          let count = w.count in
          let last = stamp.count in
          record {
            index = w.index;
            marked = w.marked;
            at = w.at;
            other = λ left. other (sym w.prev ∙ left_of w.marked.event true w.stamps ∙ left);
            high = known (suc w.index) (omega arith);
            before = is_first w.index stamp.index w.marked stamp.marked w.at stamp.at w.stamps
                (omega arith);
            turn = turn;
          }

      -- event i - 1 can't leave v after the other stamp
      stamp_start : (j : ℕ) (b : Event) (at_b : slice_get (told_events ms) j ≡ Some b)
          → i ≡ suc j → may_leave (Some b) v d ≡ false
          → (in_turn ms j b at_b).index < stamp.index → IsStart
      stamp_start j b at_b here keeps before =
          let t = in_turn ms j b at_b in
          let next = told_next ms t.index (mark b) t.at refl in
          let before_b = t.before in
          let count = w.count in
          let later : t.index < suc w.index → IsStart = λ order.
          at_stamp (omega (arith, told_grows ms (suc t.index) (suc w.index) (omega arith))) in
          elim (is_stamp b) as (λ s. is_stamp b ≡ s
          → cond s (nat_lt d b.serial.this) (b.serial.this == v) ≡ false → IsStart) [
            | true ↦ λ stamps low.
                let most = ltb-false d b.serial.this low in
                let order = not_after w.index t.index w.marked (mark b) w.at t.at stamps
                (omega arith) in
                later (omega arith)
            | false ↦ λ receives not_v. elim (cases_lt w.index t.index) [
              | inl less ↦ record {
                index = t.index;
                marked = mark b;
                at = t.at;
                other = λ left.
                    false≢true (sym not_v
                    ∙ eq-eqb b.serial.this v (left_of b false receives ∙ left));
                high = known (suc t.index) (omega arith);
                before = before;
                turn = omega arith;
              }
              | inr not_less ↦ later (omega arith)
            ]
          ] refl keeps

  -- A LOSS

  event_there : (j : ℕ) → j < length (told_events ms)
      → (b : Event) × (slice_get (told_events ms) j ≡ Some b)
  event_there j less =
      (get_or (told_events ms) j blank, slice_get-get_or (told_events ms) j blank less)

  pub loss_by_told : (i v c : ℕ) → IsStamped ms v c → i ≤ length (told_events ms)
      → is_behind (event_before (told_events ms) i) (slice_get (told_events ms) i) c ≡ true
      → is_up_to (slice_get (told_events ms) i) c ≡ true
      → (n : ℕ) (f : Event) → slice_get (told_events ms) n ≡ Some f → n < i → v < f.serial.this
      → leaves_other (event_before (told_events ms) i) v ≡ true → HasLostReceive i v ms
  loss_by_told zero v c stamp long is within n f at_f less higher other = absurd (omega arith)
  loss_by_told (suc j) v c stamp long is within n f at_f less higher other =
      let next = slice_get (told_events ms) (suc j) in
      let b = event_there j (omega arith) in
      let after = ap (λ o. is_behind o next c) (sym b.1) ∙ is in
      let apart = not-true (prev_after (b.0 ∷ []) == v)
      (ap (λ o. leaves_other o v) (sym b.1) ∙ other) in
      start_lost (suc j) v c stamp
      (told_start (suc j) v c stamp j n b.0 f b.1 at_f refl less higher
      (λ left. false≢true (sym apart ∙ eq-eqb (prev_after (b.0 ∷ [])) v left))
      (behind (suc j) v c stamp j b.0 b.1 refl next refl after))
      (up_to (suc j) v c stamp next refl within)

  pub loss_by_stamp : (i v c : ℕ) → IsStamped ms v c → i ≤ length (told_events ms)
      → is_behind (event_before (told_events ms) i) (slice_get (told_events ms) i) c ≡ true
      → is_up_to (slice_get (told_events ms) i) c ≡ true
      → (u d : ℕ) → IsStamped ms u d → ¬ (u ≡ v) → v < d → d < c
      → may_leave (event_before (told_events ms) i) v d ≡ false → HasLostReceive i v ms
  loss_by_stamp zero v c stamp long is within u d w other higher lower keeps =
      let next = slice_get (told_events ms) 0 in
      start_lost 0 v c stamp (at_stamp 0 v c stamp u d w other higher lower (omega arith))
      (up_to 0 v c stamp next refl within)
  loss_by_stamp (suc j) v c stamp long is within u d w other higher lower keeps =
      let next = slice_get (told_events ms) (suc j) in
      let b = event_there j (omega arith) in
      let after = ap (λ o. is_behind o next c) (sym b.1) ∙ is in
      let not_left = ap (λ o. may_leave o v d) (sym b.1) ∙ keeps in
      start_lost (suc j) v c stamp
      (stamp_start (suc j) v c stamp u d w other higher lower j b.0 b.1 refl not_left
      (behind (suc j) v c stamp j b.0 b.1 refl next refl after))
      (up_to (suc j) v c stamp next refl within)
