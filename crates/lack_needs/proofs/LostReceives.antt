-- A receive was lost before a stamp if an event before it leaves another prev than the stamp has,
-- and a count up to there is above the stamp's prev: no new trace has that prev then, so only a
-- receive after the event can have left it.
use Rattle.std.proofs.Common.{[], ◌≡◌, inl, inr, ℕ, zero, suc, ◌<◌, ◌≤◌, Bool, true, false, not}
use Rattle.std.proofs.Common.{cond, ◌+◌}
use Rattle.std.proofs.Common.{List, ◌∷◌, ◌++◌, length, take, Some, None, slice_get, refl, sym, ◌∙◌}
use Rattle.std.proofs.Common.{ap, arith}
use Rattle.std.proofs.lemmas.Bool.{cases_lt}
use Rattle.std.proofs.lemmas.List.{length-append, take_all}
use Rattle.std.proofs.lemmas.Option.{none-some, same_Some}
use Rattle.st_core.specs.declared.types.Event.{Event}
use Rattle.st_core.specs.Laws.{greatest_count, prev_after}
use Rattle.st_core.proofs.ForCallers.{prev_push}
use Rattle.st_pair.specs.Places.{is_stamp}
use Rattle.st_plan.specs.Marks.{Marked, told_events}
use Rattle.st_plan.proofs.ForCallers.{leaves, take_more}
use Rattle.lack_laws.proofs.ForCallers.{event_of_mark, events, GoOn}
use Rattle.lack_needs.specs.AllRuns.{HasLostReceive}

-- PARTS OF LISTS

take_past : {A : Type 0} (xs : List A) (n : ℕ) → slice_get xs n ≡ None → take (suc n) xs ≡ take n xs
take_past [] zero none = refl
take_past [] (suc n) none = refl
take_past (x ∷ xs) zero none = absurd (none-some x (sym none))
take_past (x ∷ xs) (suc n) none = ap (λ ys. x ∷ ys) (take_past xs n none)

no_event : (ms : List Marked) (k : ℕ) → slice_get ms k ≡ None → slice_get (events ms) k ≡ None
no_event [] k none = refl
no_event (m ∷ ms) zero none = absurd (none-some m (sym none))
no_event (m ∷ ms) (suc k) none = no_event ms k none

greatest_grows : (es : List Event) (m n : ℕ) → m ≤ n
    → greatest_count (take m es) ≤ greatest_count (take n es)
greatest_grows es zero n most = omega arith
greatest_grows [] (suc m) n most = omega arith
greatest_grows (e ∷ es) (suc m) zero most = absurd (omega arith)
greatest_grows (e ∷ es) (suc m) (suc n) most =
    omega (arith, greatest_grows es m n (omega arith))

-- BACK FROM A PREV

-- a receive with count v is after index k and before index l
pub record IsReceivedBetween (ms : List Marked) (k l v : ℕ) : Type 0 where
  pub index : ℕ
  pub marked : Marked
  pub at : slice_get ms index ≡ Some marked
  pub receives : is_stamp marked.event ≡ false
  pub count : marked.event.serial.this ≡ v
  pub after : k < index
  pub before : index < l

further : (ms : List Marked) (k l v : ℕ) → IsReceivedBetween ms k l v
    → IsReceivedBetween ms k (suc l) v
further ms k l v r = let before = r.before in record {
  index = r.index;
  marked = r.marked;
  at = r.at;
  receives = r.receives;
  count = r.count;
  after = r.after;
  before = omega arith;
}

-- the events up to index l leave what event l leaves
left_at : (ms : List Marked) (l : ℕ) (m : Marked) → slice_get ms l ≡ Some m
    → prev_after (take (suc l) (events ms)) ≡ prev_after (m.event ∷ [])
left_at ms l m at =
    ap prev_after (take_more (events ms) l m.event (event_of_mark ms l m at))
    ∙ prev_push (take l (events ms)) m.event

-- a send or print leaves its prev, and a receive its count
pub left_of : (e : Event) (b : Bool) → is_stamp e ≡ b
    → cond (not b) e.serial.this e.serial.prev ≡ prev_after (e ∷ [])
left_of e b is = ap (λ c. cond (not c) e.serial.this e.serial.prev) (sym is) ∙ leaves e

module _ (ms : List Marked) (go_on : GoOn ms) (k v : ℕ) (d : Marked)
    (at : slice_get ms k ≡ Some d) (other : ¬ (prev_after (d.event ∷ []) ≡ v))
    (high : v < greatest_count (take (suc k) (events ms))) where
  -- if the events before index l leave v, a receive with count v is between k and l
  pub back : (l : ℕ) → k < l → prev_after (take l (events ms)) ≡ v → IsReceivedBetween ms k l v
  back zero less left = absurd (omega arith)
  back (suc l) less left = elim (cases_lt k l) [
    | inr not_less ↦
        let here : k ≡ l = omega arith in
        absurd (other (sym (left_at ms k d at)
        ∙ ap (λ n. prev_after (take (suc n) (events ms))) here ∙ left))
    | inl earlier ↦ elim (slice_get ms l) as (λ o. slice_get ms l ≡ o
        → IsReceivedBetween ms k (suc l) v) [
          | None ↦ λ none. further ms k l v (back l earlier
              (sym (ap prev_after (take_past (events ms) l (no_event ms l none))) ∙ left))
          | Some m ↦ λ there. elim (is_stamp m.event) as (λ b. is_stamp m.event ≡ b
              → IsReceivedBetween ms k (suc l) v) [
                | false ↦ λ receives. record {
                  index = l;
                  marked = m;
                  at = there;
                  receives = receives;
                  count = left_of m.event false receives ∙ sym (left_at ms l m there) ∙ left;
                  after = earlier;
                  before = omega arith;
                }
                | true ↦ λ stamps.
                    let prev : m.event.serial.prev ≡ v =
                    left_of m.event true stamps ∙ sym (left_at ms l m there) ∙ left in
                    let grows = greatest_grows (events ms) (suc k) l (omega arith) in
                    elim (go_on l m there stamps).prev [
                      | inl on ↦ further ms k l v (back l earlier (sym on ∙ prev))
                      | inr new ↦ absurd (omega arith)
                    ]
              ] refl
        ] refl
  ]

  -- a receive with count v is between k and a stamp with prev v
  pub before_stamp : (l : ℕ) (m : Marked) → k < l → slice_get ms l ≡ Some m
      → is_stamp m.event ≡ true → m.event.serial.prev ≡ v → IsReceivedBetween ms k l v
  before_stamp l m less there stamps prev =
      let grows = greatest_grows (events ms) (suc k) l (omega arith) in
      elim (go_on l m there stamps).prev [
        | inl on ↦ back l less (sym on ∙ prev)
        | inr new ↦ absurd (omega arith)
      ]

-- BETWEEN TOLD EVENTS

told_push : (ms : List Marked) (k : ℕ) (m : Marked) → slice_get ms k ≡ Some m → m.told ≡ true
    → told_events (take (suc k) ms) ≡ told_events (take k ms) ++ m.event ∷ []
told_push [] k m at told = absurd (none-some m at)
told_push (x ∷ ms) zero m at told =
    ap (λ (y : Marked). cond y.told (y.event ∷ []) []) (same_Some x m at)
    ∙ ap (λ b. cond b (m.event ∷ []) []) told
told_push (x ∷ ms) (suc k) m at told =
    let rest = told_push ms k m at told in
    let front = told_events (take k ms) in
    let more = told_events (take (suc k) ms) in
    elim x.told as (λ b. cond b (x.event ∷ more) more
    ≡ cond b (x.event ∷ front) front ++ m.event ∷ []) [
      | true ↦ ap (λ es. x.event ∷ es) rest
      | false ↦ rest
    ]

pub told_grows : (ms : List Marked) (m n : ℕ) → m ≤ n
    → length (told_events (take m ms)) ≤ length (told_events (take n ms))
told_grows ms zero n most = omega arith
told_grows [] (suc m) n most = omega arith
told_grows (x ∷ ms) (suc m) zero most = absurd (omega arith)
told_grows (x ∷ ms) (suc m) (suc n) most =
    let rest = told_grows ms m n (omega arith) in
    let less = told_events (take m ms) in
    let more = told_events (take n ms) in
    elim x.told as (λ b. length (cond b (x.event ∷ less) less)
    ≤ length (cond b (x.event ∷ more) more)) [
      | true ↦ omega (arith, rest)
      | false ↦ rest
    ]

pub told_most : (ms : List Marked) (n : ℕ)
    → length (told_events (take n ms)) ≤ length (told_events ms)
told_most ms n =
    let grows = told_grows ms n (n + length ms) (omega arith) in
    let all = ap (λ xs. length (told_events xs)) (take_all (n + length ms) ms (omega arith)) in
    omega (arith, grows, all)

pub told_next : (ms : List Marked) (k : ℕ) (m : Marked) → slice_get ms k ≡ Some m → m.told ≡ true
    → length (told_events (take (suc k) ms)) ≡ suc (length (told_events (take k ms)))
told_next ms k m at told =
    let front = told_events (take k ms) in
    omega (arith, ap length (told_push ms k m at told) ∙ length-append front (m.event ∷ []))

-- a receive between events i - 1 and i of the told ones is untold
pub lost : (ms : List Marked) (k l i v : ℕ) → IsReceivedBetween ms k l v
    → i ≤ length (told_events (take (suc k) ms)) → length (told_events (take l ms)) ≤ i
    → HasLostReceive i v ms
lost ms k l i v r from to =
    let after = r.after in
    let before = r.before in
    let low = told_grows ms (suc k) r.index (omega arith) in
    let high = told_grows ms r.index l (omega arith) in
    elim r.marked.told as (λ b. r.marked.told ≡ b → HasLostReceive i v ms) [
      | true ↦ λ told.
          let one = told_next ms r.index r.marked r.at told in
          absurd (omega (arith, told_grows ms (suc r.index) l (omega arith)))
      | false ↦ λ untold. record {
        index = r.index;
        event = r.marked.event;
        at = r.at ∙ (λ n. Some (record { event = r.marked.event; told = untold n }));
        receives = r.receives;
        count = r.count;
        place = omega arith;
      }
    ] refl
