-- The lines are in the order of the kept streams and acts, so the first line that names an
-- unlisted pid can be found in those.
use Rattle.std.proofs.Common.{◌≡◌, ℕ, ◌+◌, ◌<◌, Bool, true, false, not, cond, ◌&&◌, ◌||◌, List, []}
use Rattle.std.proofs.Common.{◌∷◌, ◌++◌, length, map, Option, Some, None, refl, sym, ap, subst, ◌∙◌}
use Rattle.std.proofs.Common.{append_assoc, arith}
use Rattle.std.specs.Prelude.{position, is_some, option_to_list}
use Rattle.std.specs.Option.{option_map_or}
use Rattle.std.specs.List.{flat_map, list_all, find, position_from, AllByRecursion}
use Rattle.std.proofs.lemmas.List.{length-append, length-map}
use Rattle.std.proofs.lemmas.Iterator.Adapters.{position_from-zero}
use Rattle.st_core.specs.declared.types.Pid.{Pid}
use Rattle.st_core.specs.declared.types.Event.{Event}
use Rattle.st_core.specs.declared.types.Act.{Act}
use Rattle.st_core.specs.Pid.{pid_eq, IsBelow, IsRising}
use Rattle.st_core.specs.Step.{actor, receiver}
use Rattle.st_core.specs.Run.{Stream, pids_of}
use Rattle.st_core.specs.Streams.{is_among, lists, events_of, names_listed, unlisted_among}
use Rattle.st_core.specs.Streams.{unlisted}
use Rattle.std.proofs.lemmas.List.Quantifiers.{position-Some}
use Rattle.st_core.proofs.ForCallers.{pid_eq-same, pid_eq-true, IsBelow-apart, or_true}
use Rattle.st_text.specs.declared.line.Line.{Line}
use Rattle.st_text.specs.declared.line.Line.TheVariants as lines
use Rattle.st_text.specs.declared.fault.ReadFault.{ReadFault}
use Rattle.st_text.specs.declared.fault.ReadFault.TheVariants as faults
use Rattle.st_text.specs.declared.builder.BundleBuilder.{BundleBuilder}
use Rattle.st_text.specs.Parts.Counts.{acts_len, acts_lines}
use Rattle.st_text.specs.Text.{process_lines, act_lines, is_listed, acts_or_none, unlisted_act}
use Rattle.st_text.specs.Text.{Contents, lines_of, IsBundle}
use Rattle.st_text.specs.Parts.Builder.{IsBuilt}
use Rattle.st_text.specs.Parts.Finish.{line_at_place, event_line_number}
use Rattle.st_text.specs.Fault.{is_unknown, unknown_from, closing_fault}
use Rattle.st_text.proofs.ListedPids.{own_events}

and_true : (b : Bool) → (b && true) ≡ b
and_true true = refl
and_true false = refl

-- ---- a needless header

pub closing_needless : (p : BundleBuilder) (ls : List Line) → IsBuilt p ls
    → (p.wide && not p.remote) ≡ true
    → closing_fault ls ≡ Some (faults.Line 1)
closing_needless p ls s e = rw (← s.wide_is, ← s.remote_is, e) refl

pub closing_skips : (p : BundleBuilder) (ls : List Line) → IsBuilt p ls
    → (p.wide && not p.remote) ≡ false
    → closing_fault ls ≡ unknown_from (pids_of p.draft) 1 ls
closing_skips p ls s e = rw (← s.wide_is, ← s.remote_is, e, s.pids_are) refl

-- ---- unlisted pids of events

pub lists_is : (all : List Stream) (q : Pid) → lists all q ≡ is_among (pids_of all) q
lists_is [] q = refl
lists_is (x ∷ all) q = by (pid_eq x.pid q) (lists_is all q)
  where
    by : (t : Bool) → lists all q ≡ is_among (pids_of all) q
        → is_some (cond t (Some x) (find (λ y. pid_eq y.pid q) all))
        ≡ (t || is_among (pids_of all) q)
    by true e = refl
    by false e = e

unknown_event : (all : List Stream) (e : Event)
    → is_unknown (pids_of all) (lines.Event e) ≡ not (names_listed all e)
unknown_event all e = ap not
    (rw (← lists_is all e.from) (ap (λ b. lists all e.from && b) (by e.to)))
  where
    by : (o : Option Pid) → list_all (is_among (pids_of all)) (option_to_list o)
        ≡ option_map_or (lists all) o true
    by None = refl
    by (Some q) = and_true (is_among (pids_of all) q) ∙ sym (lists_is all q)

-- the fault at an index of lines that begin at line n, or that of the later lines if there is no
-- index
abbrev pub place_or : Option ℕ → ℕ → Option ReadFault → Option ReadFault
place_or None n later = later
place_or (Some i) n later = Some (faults.Unknown (n + i))

unknown_events : (all : List Stream) (es : List Event) (n j : ℕ) (rest : List Line)
    → unknown_from (pids_of all) (n + j) (map lines.Event es ++ rest)
    ≡ place_or (position_from (λ e. not (names_listed all e)) j es) n
    (unknown_from (pids_of all) (n + j + length es) rest)
unfolding unknown_from
unknown_events all [] n j rest = ap (λ k. unknown_from (pids_of all) k rest) (omega arith)
unknown_events all (e ∷ es) n j rest =
    rw (unknown_event all e) (by (not (names_listed all e))
    (ap (λ k. unknown_from (pids_of all) k (map lines.Event es ++ rest)) (omega arith)
    ∙ unknown_events all es n (j + 1) rest
    ∙ ap (λ k. place_or (position_from (λ e. not (names_listed all e)) (j + 1) es) n
    (unknown_from (pids_of all) k rest)) (omega arith)))
  where
    by : (t : Bool)
        → unknown_from (pids_of all) (n + j + 1) (map lines.Event es ++ rest)
        ≡ place_or (position_from (λ e. not (names_listed all e)) (j + 1) es) n
        (unknown_from (pids_of all) (n + j + length (e ∷ es)) rest)
        → cond t (Some (faults.Unknown (n + j)))
        (unknown_from (pids_of all) (n + j + 1) (map lines.Event es ++ rest))
        ≡ place_or (cond t (Some j) (position_from (λ e. not (names_listed all e)) (j + 1) es)) n
        (unknown_from (pids_of all) (n + j + length (e ∷ es)) rest)
    by true more = refl
    by false more = more

events_pass : (all : List Stream) (es : List Event) (n : ℕ) (rest : List Line)
    → position (λ e. not (names_listed all e)) es ≡ None
    → unknown_from (pids_of all) n (map lines.Event es ++ rest)
    ≡ unknown_from (pids_of all) (n + length es) rest
events_pass all es n rest e =
    let none : position_from (λ e. not (names_listed all e)) 0 es ≡ None =
    sym (position_from-zero (λ e. not (names_listed all e)) es) ∙ e in
    ap (λ k. unknown_from (pids_of all) k (map lines.Event es ++ rest)) (omega arith)
    ∙ unknown_events all es n 0 rest
    ∙ ap (λ o. place_or o n (unknown_from (pids_of all) (n + 0 + length es) rest)) none
    ∙ ap (λ k. unknown_from (pids_of all) k rest) (omega arith)

events_stop : (all : List Stream) (es : List Event) (n i : ℕ) (rest : List Line)
    → position (λ e. not (names_listed all e)) es ≡ Some i
    → unknown_from (pids_of all) n (map lines.Event es ++ rest) ≡ Some (faults.Unknown (n + i))
events_stop all es n i rest e =
    let some : position_from (λ e. not (names_listed all e)) 0 es ≡ Some i =
    sym (position_from-zero (λ e. not (names_listed all e)) es) ∙ e in
    ap (λ k. unknown_from (pids_of all) k (map lines.Event es ++ rest)) (omega arith)
    ∙ unknown_events all es n 0 rest
    ∙ ap (λ o. place_or o n (unknown_from (pids_of all) (n + 0 + length es) rest)) some

-- ---- streams

-- no event names an unlisted pid, or the line of the first that does is one of these
abbrev pub place_of : List Stream → ℕ → List Stream → List Line → Option (Pid × ℕ) → Type 0
place_of all n ss rest None =
    unknown_from (pids_of all) n (flat_map process_lines ss ++ rest)
    ≡ unknown_from (pids_of all) (n + length (flat_map process_lines ss)) rest
place_of all n ss rest (Some x) =
    (unknown_from (pids_of all) n (flat_map process_lines ss ++ rest)
    ≡ Some (faults.Unknown (line_at_place (λ q. length (events_of all q)) n (pids_of ss) x.0 x.1)))
    × (line_at_place (λ q. length (events_of all q)) n (pids_of ss) x.0 x.1
    < n + length (flat_map process_lines ss))
    × (is_among (pids_of ss) x.0 ≡ true)

-- an event, if an index was found
some_event : (all : List Stream) (es : List Event) (i : ℕ)
    → position (λ e. not (names_listed all e)) es ≡ Some i
    → Event
some_event all [] i e = absurd cc
some_event all (x ∷ es) i e = x

-- a pid that is among greater ones is another than x
apart : (x p : Pid) (ps : List Pid) → AllByRecursion (IsBelow x) ps → is_among ps p ≡ true
    → pid_eq x p ≡ false
apart x p [] below e = absurd cc
apart x p (q ∷ ps) below e = by (pid_eq q p) refl e (apart x p ps below.1)
  where
    by : (t : Bool) → pid_eq q p ≡ t → (t || is_among ps p) ≡ true
        → (is_among ps p ≡ true → pid_eq x p ≡ false)
        → pid_eq x p ≡ false
    by true is e more = subst (λ (r : Pid). pid_eq x r ≡ false) (pid_eq-true q p is)
        (IsBelow-apart x q below.0)
    by false is e more = more e

pub streams_place : (all ss : List Stream) (n : ℕ) (rest : List Line)
    → AllByRecursion (λ s. events_of all s.pid ≡ s.events) ss → IsRising (pids_of ss)
    → place_of all n ss rest (unlisted_among all ss)
unfolding unknown_from
streams_place all [] n rest own rising = ap (λ k. unknown_from (pids_of all) k rest) (omega arith)
streams_place all (x ∷ ss) n rest own rising =
    by (position (λ e. not (names_listed all e)) x.events) refl
    (streams_place all ss (n + 1 + length x.events) rest own.1 rising.1)
  where
    here : (i : ℕ) → position (λ e. not (names_listed all e)) x.events ≡ Some i
        → place_of all n (x ∷ ss) rest (Some (x.pid, i))
    here i e =
        let line : line_at_place (λ q. length (events_of all q)) n (pids_of (x ∷ ss)) x.pid i
        ≡ n + 1 + i =
        let t = pid_eq-same x.pid in rw t refl in
        let at : unknown_from (pids_of all) n (flat_map process_lines (x ∷ ss) ++ rest)
        ≡ Some (faults.Unknown (n + 1 + i)) =
        ap (λ (y : List Line). unknown_from (pids_of all) (n + 1) y)
        (append_assoc (map lines.Event x.events) (flat_map process_lines ss) rest)
        ∙ events_stop all x.events (n + 1) i (flat_map process_lines ss ++ rest) e in
        let within = position-Some (λ e. not (names_listed all e)) x.events i
        (some_event all x.events i e) e in (
          at ∙ ap (λ k. Some (faults.Unknown k)) (sym line),
          omega (
            arith,
            line,
            within.0,
            length-append (process_lines x) (flat_map process_lines ss),
            length-map
                x.events lines.Event,
          ),
          let t = pid_eq-same x.pid in rw t refl,
        )

    there : (o : Option (Pid × ℕ)) → position (λ e. not (names_listed all e)) x.events ≡ None
        → place_of all (n + 1 + length x.events) ss rest o → place_of all n (x ∷ ss) rest o
    there o e more = later o more
      where
        skips : unknown_from (pids_of all) n (flat_map process_lines (x ∷ ss) ++ rest)
            ≡ unknown_from (pids_of all) (n + 1 + length x.events)
            (flat_map process_lines ss ++ rest)
        skips =
            ap (λ (y : List Line). unknown_from (pids_of all) (n + 1) y)
            (append_assoc (map lines.Event x.events) (flat_map process_lines ss) rest)
            ∙ events_pass all x.events (n + 1) (flat_map process_lines ss ++ rest) e

        count : n + 1 + length x.events + length (flat_map process_lines ss)
            ≡ n + length (flat_map process_lines (x ∷ ss))
        count =
            omega (
              arith,
              length-append (process_lines x) (flat_map process_lines ss),
              length-map x.events lines.Event,
            )

        later : (o : Option (Pid × ℕ)) → place_of all (n + 1 + length x.events) ss rest o
            → place_of all n (x ∷ ss) rest o
        later None more = skips ∙ more ∙ ap (λ k. unknown_from (pids_of all) k rest) count
        later (Some y) more =
            let other : pid_eq x.pid y.0 ≡ false = apart x.pid y.0 (pids_of ss) rising.0 more.2 in
            let line : line_at_place (λ q. length (events_of all q)) n (pids_of (x ∷ ss)) y.0 y.1
            ≡ line_at_place (λ q. length (events_of all q)) (n + 1 + length x.events) (pids_of ss)
            y.0 y.1 =
            rw other
            (ap (λ k. line_at_place (λ q. length (events_of all q)) (n + 1 + k) (pids_of ss) y.0
            y.1)
            (ap length own.0)) in (
              skips ∙ more.0 ∙ ap (λ k. Some (faults.Unknown k)) (sym line),
              omega (arith, line, more.1, count),
              rw more.2 (or_true (pid_eq x.pid y.0)),
            )

    by : (o : Option ℕ) → position (λ e. not (names_listed all e)) x.events ≡ o
        → place_of all (n + 1 + length x.events) ss rest (unlisted_among all ss)
        → place_of all n (x ∷ ss) rest
        (elim o [ None ↦ unlisted_among all ss | Some i ↦ Some (x.pid, i) ])
    by None e more = there (unlisted_among all ss) e more
    by (Some i) e more = here i e

-- ---- acts

unknown_act : (ps : List Pid) (a : Act) → is_unknown ps (lines.Act a) ≡ not (is_listed ps a)
unknown_act ps a = ap (λ b. not (is_among ps (actor a) && b)) (and_true (is_among ps (receiver a)))

unknown_acts : (ps : List Pid) (list : List Act) (n j : ℕ)
    → unknown_from ps (n + j) (map lines.Act list)
    ≡ place_or (position_from (λ a. not (is_listed ps a)) j list) n None
unfolding unknown_from
unknown_acts ps [] n j = refl
unknown_acts ps (a ∷ list) n j =
    rw (unknown_act ps a) (by (not (is_listed ps a))
    (ap (λ k. unknown_from ps k (map lines.Act list)) (omega arith)
    ∙ unknown_acts ps list n (j + 1)))
  where
    by : (t : Bool)
        → unknown_from ps (n + j + 1) (map lines.Act list)
        ≡ place_or (position_from (λ a. not (is_listed ps a)) (j + 1) list) n None
        → cond t (Some (faults.Unknown (n + j))) (unknown_from ps (n + j + 1) (map lines.Act list))
        ≡ place_or (cond t (Some j) (position_from (λ a. not (is_listed ps a)) (j + 1) list)) n None
    by true more = refl
    by false more = more

pub acts_place : (ss : List Stream) (o : Option (List Act)) (n : ℕ)
    → unknown_from (pids_of ss) n (act_lines o) ≡ place_or (unlisted_act ss o) (n + 1) None
unfolding unknown_from
acts_place ss None n = refl
acts_place ss (Some list) n =
    ap (λ k. unknown_from (pids_of ss) k (map lines.Act list)) (omega arith)
    ∙ unknown_acts (pids_of ss) list (n + 1) 0
    ∙ ap (λ o. place_or o (n + 1) None)
    (sym (position_from-zero (λ a. not (is_listed (pids_of ss) a)) list))

pub position_within : {A : Type 0} (p : A → Bool) (xs : List A) (j i : ℕ)
    → position_from p j xs ≡ Some i
    → i < j + length xs
position_within p [] j i e = absurd cc
position_within p (x ∷ xs) j i e = by (p x) e (position_within p xs (j + 1) i)
  where
    by : (t : Bool) → cond t (Some j) (position_from p (j + 1) xs) ≡ Some i
        → (position_from p (j + 1) xs ≡ Some i → i < j + 1 + length xs) → i < j + length (x ∷ xs)
    by true e more = let same : j ≡ i = cc in omega arith
    by false e more = omega (arith, more e)

pub act_within : (ss : List Stream) (o : Option (List Act)) (i : ℕ) → unlisted_act ss o ≡ Some i
    → i < acts_len o
act_within ss None i e = absurd cc
act_within ss (Some list) i e =
    omega (
      arith,
      position_within (λ a. not (is_listed (pids_of ss) a)) list 0 i
          (sym (position_from-zero (λ a. not (is_listed (pids_of ss) a)) list) ∙ e),
    )

-- ---- the whole

acts_count : (o : Option (List Act)) → length (act_lines o) ≡ acts_lines o
acts_count None = refl
acts_count (Some list) = omega (arith, length-map list lines.Act)

-- how many lines the processes and events take
pub streams_count : (p : BundleBuilder) (ls : List Line) → IsBuilt p ls
    → length (flat_map process_lines p.draft) ≡ p.processes + p.events
streams_count p ls s =
    omega (
      arith,
      p.counted,
      s.count,
      ap length s.lines,
      length-append (flat_map process_lines p.draft)
          (act_lines p.acts),
      acts_count p.acts,
    )

from_body : (p : BundleBuilder) (ls : List Line) → IsBuilt p ls → (p.wide && not p.remote) ≡ false
    → closing_fault ls ≡ unknown_from (pids_of p.draft) 2
    (flat_map process_lines p.draft ++ act_lines p.acts)
unfolding unknown_from
from_body p ls s e = closing_skips p ls s e ∙ ap (unknown_from (pids_of p.draft) 1) s.lines

pub closing_event : (p : BundleBuilder) (ls : List Line) (q : Pid) (i : ℕ) → IsBuilt p ls
    → (p.wide && not p.remote) ≡ false → unlisted p.draft ≡ Some (q, i)
    → (closing_fault ls ≡ Some (faults.Unknown (event_line_number p.draft q i)))
    × (event_line_number p.draft q i < length ls + 1)
closing_event p ls q i s e at =
    let all = streams_place p.draft p.draft 2 (act_lines p.acts) (own_events p.draft s.rising)
    s.rising in
    let place =
    let P : Option (Pid × ℕ) → Type 0 = place_of p.draft 2 p.draft (act_lines p.acts) in
    subst P at all in (
      from_body p ls s e ∙ place.0,
      omega (
        arith,
        place.1,
        ap length s.lines,
        length-append (flat_map process_lines p.draft) (act_lines p.acts),
      ),
    )

pub closing_act : (p : BundleBuilder) (ls : List Line) (o : Option ℕ) → IsBuilt p ls
    → (p.wide && not p.remote) ≡ false
    → unlisted p.draft ≡ None → unlisted_act p.draft p.acts ≡ o
    → closing_fault ls ≡ place_or o (3 + p.processes + p.events) None
closing_act p ls o s e none at =
    let all = streams_place p.draft p.draft 2 (act_lines p.acts) (own_events p.draft s.rising)
    s.rising in
    let place =
    let P : Option (Pid × ℕ) → Type 0 = place_of p.draft 2 p.draft (act_lines p.acts) in
    subst P none all in
    from_body p ls s e ∙ place
    ∙ acts_place p.draft p.acts (2 + length (flat_map process_lines p.draft))
    ∙ ap (λ k. place_or (unlisted_act p.draft p.acts) k None) (omega (arith, streams_count p ls s))
    ∙ ap (λ x. place_or x (3 + p.processes + p.events) None) at

-- each act is listed, so that no index is found
none_unlisted_act : (ps : List Pid) (list : List Act) (j : ℕ) → list_all (is_listed ps) list ≡ true
    → position_from (λ a. not (is_listed ps a)) j list ≡ None
none_unlisted_act ps [] j e = refl
none_unlisted_act ps (a ∷ list) j e = by (is_listed ps a) e (none_unlisted_act ps list (j + 1))
  where
    by : (t : Bool) → (t && list_all (is_listed ps) list) ≡ true
        → (list_all (is_listed ps) list ≡ true
        → position_from (λ a. not (is_listed ps a)) (j + 1) list ≡ None)
        → cond (not t) (Some j) (position_from (λ a. not (is_listed ps a)) (j + 1) list) ≡ None
    by true e more = more e
    by false e more = absurd cc

-- no line of a bundle names an unlisted pid
pub all_known : (c : Contents) → IsBundle c → unknown_from (pids_of c.streams) 1 (lines_of c) ≡ None
unfolding unknown_from
all_known c h =
    let rising = h.streams.draft.rising in
    let all = streams_place c.streams c.streams 2 (act_lines c.acts) (own_events c.streams rising)
    rising in
    let place =
    let P : Option (Pid × ℕ) → Type 0 =
    place_of c.streams 2 c.streams (act_lines c.acts) in subst P h.streams.listed all in
    let none : unlisted_act c.streams c.acts ≡ None =
    position_from-zero (λ a. not (is_listed (pids_of c.streams) a)) (acts_or_none c.acts)
    ∙ none_unlisted_act (pids_of c.streams) (acts_or_none c.acts) 0 h.listed in
    place ∙ acts_place c.streams c.acts (2 + length (flat_map process_lines c.streams))
    ∙ ap (λ o. place_or o (2 + length (flat_map process_lines c.streams) + 1) None) none
