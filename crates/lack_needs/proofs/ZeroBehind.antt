-- The lowest count of some events is below n exactly if one of the events has a count below n. So
-- an event with prev 0 has a count above the lowest of its process exactly if some event tells of
-- a stamp of the process with a lower count and another prev.
use Rattle.std.proofs.Common.{◌≡◌, inl, inr, ℕ, ◌+◌, zero, suc, ◌<◌, ◌==◌, ◌&&◌, ◌||◌, nat_lt, min}
use Rattle.std.proofs.Common.{Bool, true, false, not, cond, List, [], ◌∷◌, take, slice_get, Option}
use Rattle.std.proofs.Common.{Some, None, is_some, if◌then◌else◌, refl, sym, ◌∙◌, ap, arith}
use Rattle.std.proofs.lemmas.Bool.{and_from, and_parts, eq-eqb, eqb-true, false≢true, le-ltb}
use Rattle.std.proofs.lemmas.Bool.{lt-ltb, ltb-false, ltb-true, not-true}
use Rattle.std.proofs.lemmas.Option.{cond_some, none-some, same_Some}
use Rattle.st_core.specs.declared.types.Pid.{Pid}
use Rattle.st_core.specs.declared.types.Event.{Event}
use Rattle.st_core.specs.Pid.{pid_eq, IsRising}
use Rattle.st_core.specs.Run.{Stream, pids_of}
use Rattle.st_core.specs.Streams.{events_of}
use Rattle.st_core.proofs.ForCallers.{pid_eq-refl, pid_same, or_true, or_false, some_of}
use Rattle.st_pair.specs.Places.{event_at, first, first_from, is_stamp, or_else}
use Rattle.st_pair.proofs.ForCallers.{event_none, given_at}
use Rattle.st_order.specs.Items.{is_hidden}
use Rattle.lack_laws.specs.Reasons.{HoldsAt}
use Rattle.lack_laws.specs.OpenReasons.{IsLeastPlace, IsUnfounded}
use Rattle.lack_needs.specs.Unfounded.{has_receive, is_known_below, is_unfounded, lower_count}
use Rattle.lack_needs.specs.Unfounded.{lowest_count, lowest_from, lowest_in, lowest_with, tells_of}
use Rattle.lack_needs.proofs.Flawed.{none_false}
use Rattle.lack_needs.proofs.Noted.{or_assoc}

-- A LOWER COUNT IS TOLD

-- an event of a stamp of q with another prev than 0 and a count below n
abbrev tells_below : Pid → ℕ → Event → Bool
tells_below q n e = tells_of q e && nat_lt e.serial.this n

abbrev below : Pid → ℕ → Pid → ℕ → Event → Option (Pid × ℕ)
below q n p i e = if tells_below q n e then Some (p, i) else None

min_below : (k m n : ℕ) → nat_lt (min k m) n ≡ (nat_lt k n || nat_lt m n)
min_below k m n = elim (nat_lt k n) as (λ b. nat_lt k n ≡ b
    → nat_lt (min k m) n ≡ (b || nat_lt m n)) [
      | true ↦ λ is. let less = ltb-true k n is in lt-ltb (min k m) n (omega arith)
      | false ↦ λ is. let high = ltb-false k n is in
          elim (nat_lt m n) as (λ b. nat_lt m n ≡ b → nat_lt (min k m) n ≡ b) [
            | true ↦ λ is_m. let less = ltb-true m n is_m in lt-ltb (min k m) n (omega arith)
            | false ↦ λ is_m. let high_m = ltb-false m n is_m in le-ltb (min k m) n (omega arith)
          ] refl
    ] refl

lower_below : (low : Option ℕ) (m n : ℕ) → is_known_below (Some (lower_count low m)) n
    ≡ (is_known_below low n || nat_lt m n)
lower_below None m n = refl
lower_below (Some k) m n = min_below k m n

or_given : {X : Type 0} (o later : Option X) → is_some (or_else o later)
    ≡ (is_some o || is_some later)
or_given None later = refl
or_given (Some x) later = refl

some_if : (b : Bool) (x : Pid × ℕ) → is_some (cond b (Some x) None) ≡ b
some_if true x = refl
some_if false x = refl

-- after one more event a count below n is known if one was, or if the event has one
below_step : (tells less : Bool) (low : Option ℕ) (m n : ℕ) → less ≡ nat_lt m n
    → is_known_below (cond tells (Some (lower_count low m)) low) n
    ≡ (is_known_below low n || (tells && less))
below_step true less low m n is = lower_below low m n ∙ ap (λ b. is_known_below low n || b) (sym is)
below_step false less low m n is = sym (or_false (is_known_below low n))

in_below : (q p : Pid) (n i : ℕ) (low : Option ℕ) (es : List Event)
    → is_known_below (lowest_in q low es) n
    ≡ (is_known_below low n || is_some (first_from (below q n) p i es))
in_below q p n i low [] = sym (or_false (is_known_below low n))
in_below q p n i low (e ∷ es) =
    let here = tells_below q n e in
    let rest : Option (Pid × ℕ) = first_from (below q n) p (i + 1) es in
    in_below q p n (i + 1) (lowest_with q low e) es
    ∙ ap (λ b. b || is_some rest) (below_step (tells_of q e) (nat_lt e.serial.this n) low
    e.serial.this n refl)
    ∙ sym (or_assoc (is_known_below low n) here (is_some rest))
    ∙ sym (ap (λ b. is_known_below low n || b) (or_given (cond here (Some (p, i)) None) rest
    ∙ ap (λ b. b || is_some rest) (some_if here (p, i))))

all_below : (q : Pid) (n : ℕ) (low : Option ℕ) (streams : List Stream)
    → is_known_below (lowest_from q low streams) n ≡ (is_known_below low n
    || is_some (first (below q n) streams))
all_below q n low [] = sym (or_false (is_known_below low n))
all_below q n low (x ∷ rest) =
    let here : Option (Pid × ℕ) = first_from (below q n) x.pid 0 x.events in
    let later : Option (Pid × ℕ) = first (below q n) rest in
    all_below q n (lowest_in q low x.events) rest
    ∙ ap (λ b. b || is_some later) (in_below q x.pid n 0 low x.events)
    ∙ sym (or_assoc (is_known_below low n) (is_some here) (is_some later))
    ∙ sym (ap (λ b. is_known_below low n || b) (or_given here later))

-- WHAT IS FOUND

lower_there : (streams : List Stream) (rising : IsRising (pids_of streams)) (q : Pid) (n : ℕ)
    → is_known_below (lowest_count streams q) n ≡ true → (x : Pid × ℕ)
    × (first (below q n) streams ≡ Some x)
lower_there streams rising q n is =
    some_of (first (below q n) streams) (sym (all_below q n None streams) ∙ is)

-- one of the first i events is a receive
record HasReceive (es : List Event) (i : ℕ) : Type 0 where
  index : ℕ
  event : Event
  at : slice_get es index ≡ Some event
  receives : is_stamp event ≡ false
  before : index < i

receive_there : (es : List Event) (i : ℕ) → has_receive (take i es) ≡ true → HasReceive es i
receive_there es zero has = absurd (false≢true has)
receive_there [] (suc i) has = absurd (false≢true has)
receive_there (d ∷ es) (suc i) has =
    elim (not (is_stamp d)) as (λ b. not (is_stamp d) ≡ b → (b || has_receive (take i es)) ≡ true
    → HasReceive (d ∷ es) (suc i)) [
      | true ↦ λ here _. record {
        index = 0;
        event = d;
        at = refl;
        receives = not-true (is_stamp d) here;
        before = omega arith;
      }
      | false ↦ λ _ later.
          let rest = receive_there es i later in
          let before = rest.before in
          record {
            index = suc rest.index;
            event = rest.event;
            at = rest.at;
            receives = rest.receives;
            before = omega arith;
          }
    ] refl has

there_receive : (es : List Event) (i j : ℕ) (d : Event) → slice_get es j ≡ Some d
    → is_stamp d ≡ false → j < i → has_receive (take i es) ≡ true
there_receive es zero j d at receives before = absurd (omega arith)
there_receive [] (suc i) j d at receives before = absurd (none-some d at)
there_receive (e ∷ es) (suc i) zero d at receives before =
    ap (λ b. not b || has_receive (take i es)) (ap is_stamp (same_Some e d at) ∙ receives)
there_receive (e ∷ es) (suc i) (suc j) d at receives before =
    ap (λ b. not (is_stamp e) || b) (there_receive es i j d at receives (omega arith))
    ∙ or_true (not (is_stamp e))

module _ (streams : List Stream) (rising : IsRising (pids_of streams)) where
  pub found_unfounded : (p : Pid) (i : ℕ) → HoldsAt (is_unfounded streams) streams p i
      → IsUnfounded streams p i
  found_unfounded p i h =
      let e = h.event in
      let before = take i (events_of streams p) in
      let own = is_stamp e || is_hidden streams e in
      let low = is_known_below (lowest_count streams e.from) e.serial.this in
      let parts = and_parts (e.serial.prev == 0) ((is_stamp e && has_receive before)
      || (own && low)) h.holds in
      let zero = eqb-true e.serial.prev 0 parts.0 in
      elim (is_stamp e && has_receive before) as (λ b. (is_stamp e && has_receive before) ≡ b
      → (b || (own && low)) ≡ true → IsUnfounded streams p i) [
        | true ↦ λ here _.
            let both = and_parts (is_stamp e) (has_receive before) here in
            let r = receive_there (events_of streams p) i both.1 in
            inl (record {
              event = e;
              at = h.at;
              stamps = both.0;
              is_zero = zero;
              index = r.index;
              received = r.event;
              received_at = r.at;
              receives = r.receives;
              behind = r.before;
            })
        | false ↦ λ _ behind.
            let both = and_parts own low behind in
            let there = lower_there streams rising e.from e.serial.this both.1 in
            let f = given_at (below e.from e.serial.this) streams there.0 rising there.1 in
            let d = f.event in
            let tells = cond_some (tells_below e.from e.serial.this d) (f.pid, f.index) there.0
            f.gives in
            let less = and_parts (tells_of e.from d) (nat_lt d.serial.this e.serial.this) tells.0 in
            let of = and_parts (pid_eq d.from e.from) (nat_lt 0 d.serial.prev) less.0 in
            inr (record {
              zero = record {
                event = e;
                at = h.at;
                is_zero = zero;
                pid = f.pid;
                index = f.index;
                first = d;
                first_at = f.at;
                same = pid_same d.from e.from of.0;
                lower = ltb-true d.serial.this e.serial.this less.1;
                above = ltb-true 0 d.serial.prev of.1;
              };
              tells = both.0;
            })
      ] refl parts.1

  low_told : (e d : Event) (p : Pid) (i : ℕ) → event_at streams p i ≡ Some d → d.from ≡ e.from
      → d.serial.this < e.serial.this → 0 < d.serial.prev
      → is_known_below (lowest_count streams e.from) e.serial.this ≡ true
  low_told e d p i at same lower above =
      let tells : tells_below e.from e.serial.this d ≡ true =
      and_from (tells_of e.from d) (nat_lt d.serial.this e.serial.this)
      (and_from (pid_eq d.from e.from) (nat_lt 0 d.serial.prev)
      (ap (λ q. pid_eq q e.from) same ∙ pid_eq-refl e.from) (lt-ltb 0 d.serial.prev above))
      (lt-ltb d.serial.this e.serial.this lower) in
      elim (first (below e.from e.serial.this) streams)
      as (λ o. first (below e.from e.serial.this) streams ≡ o
      → is_known_below (lowest_count streams e.from) e.serial.this ≡ true) [
        | None ↦ λ nobody. absurd (false≢true (sym (none_false (tells_below e.from e.serial.this d)
            (p, i)
            (event_none (below e.from e.serial.this) streams nobody p i d at)) ∙ tells))
        | Some x ↦ λ some. all_below e.from e.serial.this None streams
            ∙ ap (λ (o : Option (Pid × ℕ)). is_some o) some
      ] refl

  pub unfounded_found : (p : Pid) (i : ℕ) → IsUnfounded streams p i
      → HoldsAt (is_unfounded streams) streams p i
  unfounded_found p i (inl z) =
      let e = z.event in
      let before = take i (events_of streams p) in
      let behind = (is_stamp e || is_hidden streams e)
      && is_known_below (lowest_count streams e.from) e.serial.this in
      let here : (is_stamp e && has_receive before) ≡ true =
      and_from (is_stamp e) (has_receive before) z.stamps
      (there_receive (events_of streams p) i z.index z.received z.received_at z.receives
      z.behind) in
      record {
        event = e;
        at = z.at;
        holds = and_from (e.serial.prev == 0) ((is_stamp e && has_receive before) || behind)
            (eq-eqb e.serial.prev 0 z.is_zero) (ap (λ b. b || behind) here);
      }
  unfounded_found p i (inr t) =
      let z = t.zero in
      let e = z.event in
      let before = take i (events_of streams p) in
      let own = is_stamp e || is_hidden streams e in
      let low = is_known_below (lowest_count streams e.from) e.serial.this in
      let behind : (own && low) ≡ true = and_from own low t.tells
      (low_told e z.first z.pid z.index z.first_at z.same z.lower z.above) in
      record {
        event = e;
        at = z.at;
        holds = and_from (e.serial.prev == 0) ((is_stamp e && has_receive before) || (own && low))
            (eq-eqb e.serial.prev 0 z.is_zero)
            (ap (λ b. (is_stamp e && has_receive before) || b) behind
            ∙ or_true (is_stamp e && has_receive before));
      }

  pub least_unfounded : (p : Pid) (i : ℕ) → IsLeastPlace (HoldsAt (is_unfounded streams) streams) p
      i
      → IsLeastPlace (IsUnfounded streams) p i
  least_unfounded p i is = record {
    holds = found_unfounded p i is.holds;
    least = λ q j earlier holds. is.least q j earlier (unfounded_found q j holds);
  }
