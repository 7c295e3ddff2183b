-- A candidate tells the streams: each event goes to the end of the process that was begun last,
-- with its mark, so the process tells what it told before, and the event if that was reported.
-- When no event is left, each process tells all of its reported events.
use Rattle.std.proofs.Common.{◌≡◌, ℕ, ◌+◌, ◌<◌, ◌≤◌, zero, suc, Bool, true, false, cond, List, []}
use Rattle.std.proofs.Common.{◌∷◌, ◌++◌, length, take, get_or, slice_get, Some, append-nil}
use Rattle.std.proofs.Common.{append_assoc, refl, sym, ◌∙◌, ap, arith}
use Rattle.std.proofs.lemmas.List.{length-append, map-append, map_more, take_all}
use Rattle.std.proofs.lemmas.Option.{same_Some}
use Rattle.st_core.specs.declared.types.Pid.{Pid}
use Rattle.st_core.specs.declared.types.Event.{Event}
use Rattle.st_core.specs.Pid.{IsRising}
use Rattle.st_core.specs.Run.{Stream, pids_of}
use Rattle.st_core.specs.Streams.{added, events_of, IsStreams}
use Rattle.st_pair.proofs.ForCallers.{events_in, is_at, stream_here, take_map}
use Rattle.st_plan.specs.Marks.{told_events, told_streams, Whole}
use Rattle.lack_laws.specs.Silent.{with_silent}
use Rattle.lack_laws.proofs.ForCallers.{silent_events, silent_sound}
use Rattle.lack_needs.specs.Completions.{marked_with, wholes_with}
use Rattle.lack_needs.proofs.ForCallers.{added_last}
use Rattle.lack_search.specs.declared.assembly.Assembly.{Assembly}
use Rattle.lack_search.specs.declared.merged_events.Origin.{Origin}
use Rattle.lack_search.specs.Assembly.{streams_of_pids, AddsTold, IsAdded}
use Rattle.lack_search.specs.Links.{event_counts}
use Rattle.lack_search.specs.MergedEvents.{is_told, told_if}

-- ONE EVENT

told_push : (es : List Event) (bs : List Bool) (e : Event) (b : Bool) → length bs ≡ length es
    → told_events (marked_with (es ++ e ∷ []) (bs ++ b ∷ []))
    ≡ told_events (marked_with es bs) ++ cond b (e ∷ []) []
told_push [] [] e b even = refl
told_push [] (c ∷ bs) e b even = absurd (omega arith)
told_push (d ∷ es) [] e b even = absurd (omega arith)
told_push (d ∷ es) (c ∷ bs) e b even =
    let rest = told_push es bs e b (omega arith) in
    let all = told_events (marked_with (es ++ e ∷ []) (bs ++ b ∷ [])) in
    let own = told_events (marked_with es bs) in
    elim c as (λ t. cond t (d ∷ all) all ≡ cond t (d ∷ own) own ++ cond b (e ∷ []) []) [
      | true ↦ ap (λ xs. d ∷ xs) rest
      | false ↦ rest
    ]

pub event_added : (p : Pid) (e : Event) (from : Origin) (old new : Assembly)
    → new.draft ≡ added old.draft p e → new.marks.items ≡ old.marks.items ++ is_told from ∷ []
    → AddsTold p (told_if from e) old new
event_added p e from old new step mark before told under = record {
  last = under.last;
  events = under.events ++ e ∷ [];
  draft = step ∙ ap (λ xs. added xs p e) under.draft ∙ added_last before p under.events e
      under.last;
  even =
      let marks = ap length mark ∙ length-append old.marks.items (is_told from ∷ []) in
      let events = length-append under.events (e ∷ []) in
      let was = under.even in
      omega (arith, marks, events, was);
  tells = ap (λ bs. told_events (marked_with (under.events ++ e ∷ []) bs)) mark
      ∙ told_push under.events old.marks.items e (is_told from) under.even
      ∙ ap (λ xs. xs ++ told_if from e) under.tells;
}

-- SOME EVENTS OF A PROCESS

pub adds_none : (p : Pid) (a : Assembly) → AddsTold p [] a a
adds_none p a before told under = record {
  last = under.last;
  events = under.events;
  draft = under.draft;
  even = under.even;
  tells = under.tells ∙ sym (append-nil told);
}

pub adds_both : (p : Pid) (xs ys : List Event) (a b c : Assembly) → AddsTold p xs a b
    → AddsTold p ys b c → AddsTold p (xs ++ ys) a c
adds_both p xs ys a b c first second before told under =
    let then = second before (told ++ xs) (first before told under) in
    record {
      last = then.last;
      events = then.events;
      draft = then.draft;
      even = then.even;
      tells = then.tells ∙ append_assoc told xs ys;
    }

-- some of the reported events were added, and the others are left
pub record IsToldSoFar (p : Pid) (all left : List Event) (old new : Assembly) : Type 0 where
  pub told : List Event
  pub adds : AddsTold p told old new
  pub whole : told ++ left ≡ all

pub told_start : (p : Pid) (all : List Event) (a : Assembly) → IsToldSoFar p all all a a
told_start p all a = record { told = []; adds = adds_none p a; whole = refl }

-- invented sends are added, and then an event, which was reported or not
pub told_step : (p : Pid) (all left rest more : List Event) (a b c d : Assembly)
    → IsToldSoFar p all left a b → AddsTold p [] b c → AddsTold p more c d → left ≡ more ++ rest
    → IsToldSoFar p all rest a d
told_step p all left rest more a b c d so_far sends event parts = record {
  told = so_far.told ++ more;
  adds = adds_both p so_far.told more a b d so_far.adds (adds_both p [] more b c d sends event);
  whole = append_assoc so_far.told more rest ∙ ap (λ xs. so_far.told ++ xs) (sym parts)
      ∙ so_far.whole;
}

-- after the invented sends that come last all reported events are told
pub told_whole : (p : Pid) (all left : List Event) (a b c : Assembly)
    → IsToldSoFar p all left a b → left ≡ [] → AddsTold p [] b c → AddsTold p all a c
told_whole p all left a b c so_far none sends before told under =
    let then = sends before (told ++ so_far.told) (so_far.adds before told under) in
    let reported : so_far.told ≡ all = sym (append-nil so_far.told)
    ∙ ap (λ xs. so_far.told ++ xs) (sym none) ∙ so_far.whole in
    record {
      last = then.last;
      events = then.events;
      draft = then.draft;
      even = then.even;
      tells = then.tells ∙ append-nil (told ++ so_far.told) ∙ ap (λ xs. told ++ xs) reported;
    }

-- A PROCESS

wholes_push : (xs : List Stream) (ls : List (List Bool)) (x : Stream) (l : List Bool)
    → length ls ≡ length xs → wholes_with (xs ++ x ∷ []) (ls ++ l ∷ [])
    ≡ wholes_with xs ls ++ record { pid = x.pid; marked = marked_with x.events l } ∷ []
wholes_push [] [] x l even = refl
wholes_push [] (m ∷ ls) x l even = absurd (omega arith)
wholes_push (y ∷ xs) [] x l even = absurd (omega arith)
wholes_push (y ∷ xs) (m ∷ ls) x l even =
    ap (λ (ws : List Whole). record { pid = y.pid; marked = marked_with y.events m } ∷ ws)
    (wholes_push xs ls x l (omega arith))

-- the first k processes were added, and tell their events in the streams
pub record AreAssembled (streams : List Stream) (pids : List Pid) (k : ℕ) (draft : List Stream)
    (lists : List (List Bool)) : Type 0 where
  pub even : length lists ≡ length draft
  pub told : told_streams (wholes_with draft lists) ≡ streams_of_pids streams (take k pids)

pub none_assembled : (streams : List Stream) (pids : List Pid) (draft : List Stream)
    (lists : List (List Bool)) → draft ≡ [] → lists ≡ [] → AreAssembled streams pids 0 draft lists
none_assembled streams pids draft lists none unmarked = record {
  even = ap length unmarked ∙ sym (ap length none);
  told = ap (λ ss. told_streams (wholes_with ss lists)) none;
}

-- one more process tells its events
pub process_assembled : (streams : List Stream) (pids : List Pid) (k : ℕ) (d : Pid)
    (old new : List Stream) (lists more : List (List Bool)) (marks : List Bool) → k < length pids
    → IsAdded streams (get_or pids k d) old new marks → more ≡ lists ++ marks ∷ []
    → AreAssembled streams pids k old lists → AreAssembled streams pids (k + 1) new more
process_assembled streams pids k d old new lists more marks within is is_more so_far =
    let p = get_or pids k d in
    let x : Stream = record { pid = p; events = is.events } in
    let w : Whole = record { pid = p; marked = marked_with is.events marks } in
    let tells = λ (v : Whole). let s : Stream = record {
      pid = v.pid;
      events = told_events v.marked;
    } in s in
    let own = λ (q : Pid). let s : Stream = record { pid = q; events = events_of streams q } in s in
    record {
      even =
          let a = ap length is.draft ∙ length-append old (x ∷ []) in
          let b = ap length is_more ∙ length-append lists (marks ∷ []) in
          let was = so_far.even in
          omega (arith, a, b, was);
      told =
          ap (λ ss. told_streams (wholes_with ss more)) is.draft
          ∙ ap (λ ls. told_streams (wholes_with (old ++ x ∷ []) ls)) is_more
          ∙ ap told_streams (wholes_push old lists x marks so_far.even)
          ∙ map-append tells (wholes_with old lists) (w ∷ [])
          ∙ ap (λ ss. ss ++ tells w ∷ []) so_far.told
          ∙ ap (λ es. streams_of_pids streams (take k pids) ++ record { pid = p; events = es } ∷ [])
          is.told
          ∙ sym (map_more own pids k d within);
    }

-- after all processes the candidate tells all events
pub all_assembled : (streams : List Stream) (pids : List Pid) (k : ℕ) (draft : List Stream)
    (lists : List (List Bool)) → length pids ≤ k → AreAssembled streams pids k draft lists
    → told_streams (wholes_with draft lists) ≡ streams_of_pids streams pids
all_assembled streams pids k draft lists past so_far =
    so_far.told ∙ ap (streams_of_pids streams) (take_all k pids past)

-- ALL PROCESSES

rebuilt : (streams xs : List Stream)
    → ((k : ℕ) (x : Stream) → slice_get xs k ≡ Some x → events_of streams x.pid ≡ x.events)
    → streams_of_pids streams (pids_of xs) ≡ xs
rebuilt streams [] each = refl
rebuilt streams (x ∷ xs) each =
    ap (λ es. let s : Stream = record { pid = x.pid; events = es } in
    s ∷ streams_of_pids streams (pids_of xs)) (each 0 x refl)
    ∙ ap (λ ss. x ∷ ss) (rebuilt streams xs (λ k y at. each (suc k) y at))

pid_at : (xs : List Stream) (k : ℕ) (x : Stream) → slice_get xs k ≡ Some x
    → slice_get (pids_of xs) k ≡ Some x.pid
pid_at [] k x at = absurd (cc)
pid_at (y ∷ xs) zero x at = ap (λ (s : Stream). Some s.pid) (same_Some y x at)
pid_at (y ∷ xs) (suc k) x at = pid_at xs k x at

events_there : (xs : List Stream) (k : ℕ) (x : Stream) → IsRising (pids_of xs)
    → slice_get xs k ≡ Some x → events_of xs x.pid ≡ x.events
events_there xs k x rising at =
    let here = is_at xs k x.pid rising (pid_at xs k x at) in
    ap events_in here.found
    ∙ ap (λ (s : Stream). s.events) (same_Some here.stream x (sym here.at ∙ at))

-- a further process tells no event, so all processes tell the streams with the further ones
pub reported_with_silent : (streams : List Stream) (qs : List Pid) → IsStreams streams
    → streams_of_pids streams (pids_of (with_silent streams qs)) ≡ with_silent streams qs
reported_with_silent streams qs sound =
    let all = with_silent streams qs in
    rebuilt streams all (λ k x at. sym (silent_events streams sound qs x.pid)
    ∙ events_there all k x (silent_sound streams sound qs).draft.rising at)

-- one more process adds the number of its events
pub counts_more : (streams : List Stream) (pids : List Pid) (k : ℕ) (d : Pid) (es : List Event)
    (counts : List ℕ) (n : ℕ) → IsRising (pids_of streams) → pids ≡ pids_of streams
    → k < length pids → es ≡ events_of streams (get_or pids k d) → n ≡ length es
    → counts ≡ event_counts (take k streams)
    → counts ++ n ∷ [] ≡ event_counts (take (k + 1) streams)
counts_more streams pids k d es counts n rising are within is long so_far =
    let one : suc k ≡ k + 1 = omega arith in
    ap (λ m. counts ++ m ∷ []) long ∙ ap (λ ms. ms ++ length es ∷ []) so_far
    ∙ sym (take_map (λ (x : Stream). length x.events) streams k _
    (stream_here streams pids k d es rising are within is))
    ∙ ap (λ m. event_counts (take m streams)) one
