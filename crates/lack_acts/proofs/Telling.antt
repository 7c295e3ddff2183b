-- Told events stay told: untold events can be put in or taken out, and each told one goes to the
-- end. So each process that is added tells what it told, and so do all.
use Rattle.std.proofs.Common.{◌≡◌, ℕ, ◌+◌, ◌<◌, ◌≤◌, zero, suc, Bool, true, false, cond, List, []}
use Rattle.std.proofs.Common.{◌∷◌, ◌++◌, length, map, take, drop, get_or, slice_get}
use Rattle.std.proofs.Common.{Some, append-nil}
use Rattle.std.proofs.Common.{append_assoc, refl, sym, ◌∙◌, ap, arith}
use Rattle.std.proofs.lemmas.List.{length-append, map-append, take_all}
use Rattle.std.specs.List.{AllByRecursion}
use Rattle.std.specs.Option.{option_map_or}
use Rattle.std.proofs.lemmas.Option.{same_Some}
use Rattle.st_core.specs.declared.types.Pid.{Pid}
use Rattle.st_core.specs.declared.types.Event.{Event}
use Rattle.st_core.specs.Pid.{pid_eq, IsRising}
use Rattle.st_core.specs.Run.{Stream, pids_of}
use Rattle.st_core.specs.Streams.{added, events_of, ComesLast}
use Rattle.st_core.proofs.ForCallers.{pid_eq-refl, IsBelow-apart}
use Rattle.st_pair.proofs.ForCallers.{missing_events, stream_here, take_map}
use Rattle.st_plan.specs.Marks.{all_streams, told_events, told_streams, Marked, Whole}
use Rattle.lack_laws.specs.Needs.{marked_of}
use Rattle.lack_needs.specs.Completions.{marked_with, wholes_with}
use Rattle.lack_laws.proofs.ForCallers.{events_all}
use Rattle.lack_needs.proofs.ForCallers.{all_kept, marked_kept, pids_length, told_more, untold_more}
use Rattle.lack_acts.specs.declared.marked_streams.MarkedEvent.{MarkedEvent}
use Rattle.lack_acts.specs.declared.marked_streams.MarkedStreams.{MarkedStreams}
use Rattle.lack_acts.specs.Told.{told_of, TellsAs}

-- ONE EVENT

abbrev told_one : Bool → Event → List Event
told_one b e = cond b (e ∷ []) []

told_push : (ms : List MarkedEvent) (m : MarkedEvent)
    → told_of (ms ++ m ∷ []) ≡ told_of ms ++ told_one m.is_told m.event
told_push [] m = refl
told_push (x ∷ ms) m =
    elim x.is_told as (λ b. cond b (x.event ∷ told_of (ms ++ m ∷ [])) (told_of (ms ++ m ∷ []))
    ≡ cond b (x.event ∷ told_of ms) (told_of ms) ++ told_one m.is_told m.event) [
      | true ↦ ap (λ es. x.event ∷ es) (told_push ms m)
      | false ↦ told_push ms m
    ]

untold_push : (ms : List MarkedEvent) (m : MarkedEvent) → m.is_told ≡ false
    → told_of (ms ++ m ∷ []) ≡ told_of ms
untold_push ms m untold = told_push ms m ∙ ap (λ b. told_of ms ++ told_one b m.event) untold
    ∙ append-nil (told_of ms)

-- AN EVENT OF A PROCESS THAT IS PASSED

-- the event goes to the end with its mark
pub event_kept : (all : List Event) (ms : List MarkedEvent) (m : MarkedEvent) (es : List Event)
    (bs : List Bool) (i : ℕ) → slice_get es i ≡ Some m.event → get_or bs i false ≡ m.is_told
    → told_of ms ++ told_events (drop i (marked_with es bs)) ≡ all
    → told_of (ms ++ m ∷ []) ++ told_events (drop (i + 1) (marked_with es bs)) ≡ all
event_kept all ms m es bs i at mark so_far =
    let next : i + 1 ≡ suc i = omega arith in
    let rest = told_events (drop (suc i) (marked_with es bs)) in
    let here : told_one m.is_told m.event ++ rest ≡ told_events (drop i (marked_with es bs)) =
    elim m.is_told as (λ b. get_or bs i false ≡ b → told_one b m.event ++ rest
    ≡ told_events (drop i (marked_with es bs))) [
      | true ↦ λ is. sym (told_more es bs i m.event at is)
      | false ↦ λ is. sym (untold_more es bs i m.event at is)
    ] mark in
    ap (λ n. told_of (ms ++ m ∷ []) ++ told_events (drop n (marked_with es bs))) next
    ∙ ap (λ xs. xs ++ rest) (told_push ms m)
    ∙ append_assoc (told_of ms) (told_one m.is_told m.event) rest
    ∙ ap (λ xs. told_of ms ++ xs) here ∙ so_far

-- the event is untold and left out
pub event_dropped : (all : List Event) (ms : List MarkedEvent) (e : Event) (es : List Event)
    (bs : List Bool) (i : ℕ) → slice_get es i ≡ Some e → get_or bs i false ≡ false
    → told_of ms ++ told_events (drop i (marked_with es bs)) ≡ all
    → told_of ms ++ told_events (drop (i + 1) (marked_with es bs)) ≡ all
event_dropped all ms e es bs i at untold so_far =
    let next : i + 1 ≡ suc i = omega arith in
    ap (λ n. told_of ms ++ told_events (drop n (marked_with es bs))) next
    ∙ ap (λ xs. told_of ms ++ xs) (sym (untold_more es bs i e at untold)) ∙ so_far

-- A PROCESS

marks_split : (ms : List MarkedEvent) → told_events (marked_with
    (map (λ (m : MarkedEvent). m.event) ms) (map (λ (m : MarkedEvent). m.is_told) ms)) ≡ told_of ms
marks_split [] = refl
marks_split (m ∷ ms) = ap (λ es. cond m.is_told (m.event ∷ es) es) (marks_split ms)

wholes_push : (xs : List Stream) (ls : List (List Bool)) (x : Stream) (l : List Bool)
    → length ls ≡ length xs → wholes_with (xs ++ x ∷ []) (ls ++ l ∷ [])
    ≡ wholes_with xs ls ++ record { pid = x.pid; marked = marked_with x.events l } ∷ []
wholes_push [] [] x l even = refl
wholes_push [] (m ∷ ls) x l even = absurd (omega arith)
wholes_push (y ∷ xs) [] x l even = absurd (omega arith)
wholes_push (y ∷ xs) (m ∷ ls) x l even =
    ap (λ (ws : List Whole). record { pid = y.pid; marked = marked_with y.events m } ∷ ws)
    (wholes_push xs ls x l (omega arith))

pub whole_at : (xs : List Stream) (ls : List (List Bool)) (k : ℕ) (x : Stream)
    → slice_get xs k ≡ Some x → slice_get (wholes_with xs ls) k
    ≡ Some (record { pid = x.pid; marked = marked_with x.events (get_or ls k []) })
whole_at [] ls k x at = absurd (cc)
whole_at (y ∷ xs) [] zero x at =
    ap (λ (s : Stream). Some (record { pid = s.pid; marked = marked_with s.events [] }))
    (same_Some y x at)
whole_at (y ∷ xs) (m ∷ ls) zero x at =
    ap (λ (s : Stream). Some (record { pid = s.pid; marked = marked_with s.events m }))
    (same_Some y x at)
whole_at (y ∷ xs) [] (suc k) x at = whole_at xs [] k x at
whole_at (y ∷ xs) (m ∷ ls) (suc k) x at = whole_at xs ls k x at

pub wholes_length : (xs : List Stream) (ls : List (List Bool))
    → length (wholes_with xs ls) ≡ length xs
wholes_length [] ls = refl
wholes_length (x ∷ xs) [] = ap suc (wholes_length xs [])
wholes_length (x ∷ xs) (l ∷ ls) = ap suc (wholes_length xs ls)

-- the first k processes were added, and tell what they told
pub record IsToldSoFar (wholes : List Whole) (streams : List Stream) (marks : List (List Bool))
    (k : ℕ) : Type 0 where
  pub even : length marks ≡ length streams
  pub told : told_streams (wholes_with streams marks) ≡ told_streams (take k wholes)

-- one more process tells what it told
pub process_told : (streams : List Stream) (marks : List (List Bool)) (pids : List Pid) (k : ℕ)
    (d : Pid) (es : List Event) (bs : List Bool) (ms : List MarkedEvent) (now next : List Stream)
    (lists more : List (List Bool)) → IsRising (pids_of streams) → pids ≡ pids_of streams
    → k < length pids → es ≡ events_of streams (get_or pids k d) → bs ≡ get_or marks k []
    → told_of ms ≡ told_events (marked_with es bs)
    → next ≡ now ++ record { pid = get_or pids k d; events = map (λ m. m.event) ms } ∷ []
    → more ≡ lists ++ map (λ (m : MarkedEvent). m.is_told) ms ∷ []
    → IsToldSoFar (wholes_with streams marks) now lists k
    → IsToldSoFar (wholes_with streams marks) next more (k + 1)
process_told streams marks pids k d es bs ms now next lists more rising are within events own told
    is_next is_more so_far =
    let p = get_or pids k d in
    let wholes = wholes_with streams marks in
    let x : Stream = record { pid = p; events = map (λ (m : MarkedEvent). m.event) ms } in
    let l = map (λ (m : MarkedEvent). m.is_told) ms in
    let tells = λ (w : Whole). let s : Stream = record {
      pid = w.pid;
      events = told_events w.marked;
    } in s in
    let at = whole_at streams marks k _
    (stream_here streams pids k d es rising are within events) in
    let here : tells (record { pid = p; marked = marked_with x.events l })
    ≡ tells (record { pid = p; marked = marked_with es (get_or marks k []) }) =
    ap (λ fs. let s : Stream = record { pid = p; events = fs } in s)
    (marks_split ms ∙ told ∙ ap (λ cs. told_events (marked_with es cs)) own) in
    let one : suc k ≡ k + 1 = omega arith in
    record {
      even =
          let a = ap length is_next ∙ length-append now (x ∷ []) in
          let b = ap length is_more ∙ length-append lists (l ∷ []) in
          let was = so_far.even in
          omega (arith, a, b, was);
      told =
          ap (λ ss. told_streams (wholes_with ss more)) is_next
          ∙ ap (λ ls. told_streams (wholes_with (now ++ x ∷ []) ls)) is_more
          ∙ ap told_streams (wholes_push now lists x l so_far.even)
          ∙ map-append tells (wholes_with now lists)
          (record { pid = p; marked = marked_with x.events l } ∷ [])
          ∙ ap (λ ss. ss ++ tells (record { pid = p; marked = marked_with x.events l }) ∷ [])
          so_far.told
          ∙ ap (λ s. told_streams (take k wholes) ++ s ∷ []) here
          ∙ sym (take_map tells wholes k _ at)
          ∙ ap (λ n. told_streams (take n wholes)) one;
    }

-- all processes tell what they told
pub all_told : (streams : List Stream) (marks : List (List Bool)) (pids : List Pid) (k : ℕ)
    (now : List Stream) (lists : List (List Bool)) → pids ≡ pids_of streams → length pids ≤ k
    → IsToldSoFar (wholes_with streams marks) now lists k
    → told_streams (wholes_with now lists) ≡ told_streams (wholes_with streams marks)
all_told streams marks pids k now lists are past so_far =
    let wholes = wholes_with streams marks in
    let long = ap length are ∙ pids_length streams in
    let same = wholes_length streams marks in
    so_far.told ∙ ap told_streams (take_all k wholes (omega (arith, past, long, same)))

-- READING

-- the mark of an event, if it is there
read_mark : (es : List Event) (bs : List Bool) (i : ℕ)
    → option_map_or (λ (m : Marked). m.told) (slice_get (marked_with es bs) i) false
    ≡ option_map_or (λ (e : Event). get_or bs i false) (slice_get es i) false
read_mark [] bs i = refl
read_mark (e ∷ es) [] zero = refl
read_mark (e ∷ es) (b ∷ bs) zero = refl
read_mark (e ∷ es) [] (suc i) = read_mark es [] i
read_mark (e ∷ es) (b ∷ bs) (suc i) = read_mark es bs i

abbrev told_at : List Marked → ℕ → Bool
told_at ms i = option_map_or (λ (m : Marked). m.told) (slice_get ms i) false

pub read_told : (streams : List Stream) (marks : List (List Bool)) (p : Pid) (k i : ℕ)
    → IsRising (pids_of streams) → slice_get (pids_of streams) k ≡ Some p
    → told_at (marked_of (wholes_with streams marks) p) i
    ≡ option_map_or (λ (e : Event). get_or (get_or marks k []) i false)
    (slice_get (events_of streams p) i) false
read_told streams marks p k i rising at =
    ap (λ ms. told_at ms i) (marked_kept streams marks k p rising at)
    ∙ read_mark (events_of streams p) (get_or marks k []) i

no_events : (ms : List Marked) → map (λ (m : Marked). m.event) ms ≡ [] → ms ≡ []
no_events [] none = refl
no_events (m ∷ ms) none = absurd (cc)

-- a process that isn't listed tells nothing
pub read_missing : (streams : List Stream) (marks : List (List Bool)) (p : Pid) (i : ℕ)
    → AllByRecursion (λ q. pid_eq q p ≡ false) (pids_of streams)
    → told_at (marked_of (wholes_with streams marks) p) i ≡ false
read_missing streams marks p i missing =
    let wholes = wholes_with streams marks in
    let none : map (λ (m : Marked). m.event) (marked_of wholes p) ≡ [] =
    sym (events_all wholes p) ∙ ap (λ ss. events_of ss p) (all_kept streams marks)
    ∙ missing_events streams p missing in
    ap (λ ms. told_at ms i) (no_events (marked_of wholes p) none)

-- AN EVENT THAT IS ADDED TO THE LAST PROCESS

-- an event goes to the end of the last process, since the others have lower pids
added_last : (xs : List Stream) (p : Pid) (es : List Event) (e : Event) → ComesLast xs p
    → added (xs ++ record { pid = p; events = es } ∷ []) p e
    ≡ xs ++ record { pid = p; events = es ++ e ∷ [] } ∷ []
added_last [] p es e last =
    ap (λ b. let x : Stream = cond b (record { pid = p; events = es ++ e ∷ [] })
    (record { pid = p; events = es }) in
    x ∷ []) (pid_eq-refl p)
added_last (x ∷ xs) p es e last =
    ap (λ b. let y : Stream = cond b (record x { events = x.events ++ e ∷ [] }) x in
    y ∷ added (xs ++ record { pid = p; events = es } ∷ []) p e) (IsBelow-apart x.pid p last.0)
    ∙ ap (λ ys. x ∷ ys) (added_last xs p es e last.1)

pub event_put : (old now next : List Stream) (p : Pid) (ms : List MarkedEvent) (i : ℕ)
    (m : MarkedEvent) → ComesLast old p → slice_get ms i ≡ Some m
    → now ≡ old ++ record { pid = p; events = map (λ m. m.event) (take i ms) } ∷ []
    → next ≡ added now p m.event
    → next ≡ old ++ record { pid = p; events = map (λ m. m.event) (take (i + 1) ms) } ∷ []
event_put old now next p ms i m last at is step =
    let es = map (λ (x : MarkedEvent). x.event) (take i ms) in
    let one : suc i ≡ i + 1 = omega arith in
    step ∙ ap (λ xs. added xs p m.event) is ∙ added_last old p es m.event last
    ∙ ap (λ fs. old ++ record { pid = p; events = fs } ∷ [])
    (sym (take_map (λ (x : MarkedEvent). x.event) ms i m at)
    ∙ ap (λ n. map (λ (x : MarkedEvent). x.event) (take n ms)) one)

-- no process was added yet
pub none_told : (wholes : List Whole) (streams : List Stream) (marks : List (List Bool))
    → streams ≡ [] → marks ≡ [] → IsToldSoFar wholes streams marks 0
none_told wholes streams marks none unmarked = record {
  even = ap length unmarked ∙ sym (ap length none);
  told = ap (λ ss. told_streams (wholes_with ss marks)) none;
}

-- THE PROCESSES

same_pids : (ws : List Whole) → pids_of (told_streams ws) ≡ pids_of (all_streams ws)
same_pids [] = refl
same_pids (w ∷ ws) = ap (λ ps. w.pid ∷ ps) (same_pids ws)

whole_pids : (streams : List Stream) (marks : List (List Bool))
    → pids_of (told_streams (wholes_with streams marks)) ≡ pids_of streams
whole_pids streams marks =
    same_pids (wholes_with streams marks) ∙ ap pids_of (all_kept streams marks)

-- streams that tell the same events have the same processes
pub tells_pids : (streams : List Stream) (marks : List (List Bool)) (w : MarkedStreams)
    → TellsAs (wholes_with streams marks) w → pids_of w.streams ≡ pids_of streams
tells_pids streams marks w tells =
    sym (whole_pids w.streams w.marks.items) ∙ ap pids_of tells ∙ whole_pids streams marks

-- an untold event at the end tells nothing
pub untold_pushed : (ms next : List MarkedEvent) (m : MarkedEvent) → next ≡ ms ++ m ∷ []
    → m.is_told ≡ false → told_of next ≡ told_of ms
untold_pushed ms next m is untold = ap told_of is ∙ untold_push ms m untold
