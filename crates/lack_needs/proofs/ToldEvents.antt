-- The told events of whole streams are the streams if those of each process are its stream's, and
-- the untold events are all but these.
use Rattle.std.proofs.Common.{◌≡◌, ℕ, ◌+◌, ◌<◌, zero, suc, Bool, true, false, not, cond, List, []}
use Rattle.std.proofs.Common.{◌∷◌, length, drop, slice_get, get_or, map, Some, refl, sym, ◌∙◌, ap}
use Rattle.std.proofs.Common.{arith}
use Rattle.std.specs.List.{count_by}
use Rattle.std.proofs.lemmas.List.Sums.{sum_by-cons}
use Rattle.std.proofs.lemmas.Option.{same_Some}
use Rattle.st_core.specs.declared.types.Event.{Event}
use Rattle.st_core.specs.Run.{Stream, pids_of}
use Rattle.st_core.specs.Streams.{total_of}
use Rattle.st_plan.specs.Marks.{all_streams, told_events, told_streams, Marked, Whole}
use Rattle.lack_needs.specs.Completions.{added_in, marked_with, wholes_with}
use Rattle.lack_needs.proofs.Kept.{marks_later, wholes_next}

-- a told event is the first of the told ones from its index on
pub told_more : (es : List Event) (ms : List Bool) (i : ℕ) (e : Event) → slice_get es i ≡ Some e
    → get_or ms i false ≡ true
    → told_events (drop i (marked_with es ms)) ≡ e ∷ told_events (drop (suc i) (marked_with es ms))
told_more [] ms i e at is = absurd (cc)
told_more (d ∷ es) [] zero e at is = absurd (cc)
told_more (d ∷ es) (b ∷ ms) zero e at is =
    ap (λ c. cond c (d ∷ told_events (marked_with es ms)) (told_events (marked_with es ms))) is
    ∙ ap (λ x. x ∷ told_events (marked_with es ms)) (same_Some d e at)
told_more (d ∷ es) [] (suc i) e at is = told_more es [] i e at is
told_more (d ∷ es) (b ∷ ms) (suc i) e at is = told_more es ms i e at is

pub untold_more : (es : List Event) (ms : List Bool) (i : ℕ) (e : Event) → slice_get es i ≡ Some e
    → get_or ms i false ≡ false
    → told_events (drop i (marked_with es ms)) ≡ told_events (drop (suc i) (marked_with es ms))
untold_more [] ms i e at is = absurd (cc)
untold_more (d ∷ es) [] zero e at is = refl
untold_more (d ∷ es) (b ∷ ms) zero e at is =
    ap (λ c. cond c (d ∷ told_events (marked_with es ms)) (told_events (marked_with es ms))) is
untold_more (d ∷ es) [] (suc i) e at is = untold_more es [] i e at is
untold_more (d ∷ es) (b ∷ ms) (suc i) e at is = untold_more es ms i e at is

pub told_end : (es : List Event) (ms : List Bool) (i : ℕ) → length es ≡ i
    → told_events (drop i (marked_with es ms)) ≡ []
told_end [] ms zero len = refl
told_end [] ms (suc i) len = refl
told_end (d ∷ es) ms zero len = absurd (omega arith)
told_end (d ∷ es) [] (suc i) len = told_end es [] i (omega arith)
told_end (d ∷ es) (b ∷ ms) (suc i) len = told_end es ms i (omega arith)

-- at place k both have one process, and its told events are the stream's
pub record IsToldAt (all : List Stream) (lists : List (List Bool)) (streams : List Stream) (k : ℕ) :
    Type 0 where
  pub whole : Stream
  pub at : slice_get all k ≡ Some whole
  pub stream : Stream
  pub there : slice_get streams k ≡ Some stream
  pub pid : whole.pid ≡ stream.pid
  pub told : told_events (marked_with whole.events (get_or lists k [])) ≡ stream.events

-- the told events of whole streams are the streams if they are at each place
pub all_told : (all : List Stream) (lists : List (List Bool)) (streams : List Stream)
    → length all ≡ length streams → ((k : ℕ) → k < length streams → IsToldAt all lists streams k)
    → told_streams (wholes_with all lists) ≡ streams
all_told [] lists [] len each = refl
all_told [] lists (y ∷ streams) len each = absurd (omega arith)
all_told (x ∷ all) lists [] len each = absurd (omega arith)
all_told (x ∷ all) lists (y ∷ streams) len each =
    let marks = get_or lists 0 [] in
    let t = each 0 (omega arith) in
    let whole = same_Some x t.whole t.at in
    let stream = same_Some y t.stream t.there in
    let pid : x.pid ≡ y.pid = ap (λ (s : Stream). s.pid) whole ∙ t.pid
    ∙ sym (ap (λ (s : Stream). s.pid) stream) in
    let told : told_events (marked_with x.events marks) ≡ y.events =
    ap (λ (s : Stream). told_events (marked_with s.events marks)) whole ∙ t.told
    ∙ sym (ap (λ (s : Stream). s.events) stream) in
    let rest = all_told all (drop 1 lists) streams (omega arith) (λ k less.
    let n = each (suc k) (omega arith) in
    record {
      whole = n.whole;
      at = n.at;
      stream = n.stream;
      there = n.there;
      pid = n.pid;
      told = ap (λ bs. told_events (marked_with n.whole.events bs)) (marks_later lists k) ∙ n.told;
    }) in
    ap told_streams (wholes_next x all lists)
    ∙ (λ i. record { pid = pid i; events = told i } ∷ rest i)

-- THE NUMBER OF UNTOLD EVENTS

untold_step : (b : Bool) (e : Event) (es : List Event) (n all : ℕ) → n + length es ≡ all
    → cond (not b) 1 0 + n + length (cond b (e ∷ es) es) ≡ suc all
untold_step true e es n all is = omega arith
untold_step false e es n all is = omega arith

untold_count : (ms : List Marked) → count_by (λ (m : Marked). not m.told) ms
    + length (told_events ms)
    ≡ length (map (λ (m : Marked). m.event) ms)
untold_count [] = refl
untold_count (m ∷ ms) =
    ap (λ n. n + length (told_events (m ∷ ms))) (sum_by-cons (λ (x : Marked). cond (not x.told) 1 0)
    m ms)
    ∙ untold_step m.told m.event (told_events ms) (count_by (λ (x : Marked). not x.told) ms)
    (length (map (λ (x : Marked). x.event) ms)) (untold_count ms)

pub added_count : (wholes : List Whole)
    → added_in wholes + total_of (told_streams wholes) ≡ total_of (all_streams wholes)
added_count [] = refl
added_count (w ∷ wholes) =
    let here = untold_count w.marked in
    let rest = added_count wholes in
    let added = sum_by-cons (λ (v : Whole). count_by (λ (m : Marked). not m.told) v.marked) w
    wholes in
    let told = sum_by-cons (λ (x : Stream). length x.events)
    (record { pid = w.pid; events = told_events w.marked }) (told_streams wholes) in
    let all = sum_by-cons (λ (x : Stream). length x.events)
    (record { pid = w.pid; events = map (λ (m : Marked). m.event) w.marked })
    (all_streams wholes) in
    omega (arith, here, rest, added, told, all)

pub pids_length : (xs : List Stream) → length (pids_of xs) ≡ length xs
pids_length [] = refl
pids_length (x ∷ xs) = ap suc (pids_length xs)
