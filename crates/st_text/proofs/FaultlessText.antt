-- Bytes without a fault are the text of a bundle: each good line adds a process, an event or an act
-- to what the lines before it spell, and if no pid is unlisted at the end, what was added up is a
-- bundle.
use Rattle.std.proofs.Common.{◌≡◌, ℕ, ◌+◌, ◌<◌, ◌≤◌, Bool, true, false, not, ◌&&◌, ◌||◌, cond, eqb}
use Rattle.std.proofs.Common.{nat_lt, List, [], ◌∷◌, ◌++◌, length, map, Option, Some, None, refl}
use Rattle.std.proofs.Common.{sym, ap, subst, ◌∙◌, append_assoc, arith}
use Rattle.std.specs.Prelude.{is_some}
use Rattle.std.specs.List.{flat_map, count_by, list_any, list_all, AllByRecursion}
use Rattle.std.specs.declared.cmp.Ordering.{Ordering}
use Rattle.std.specs.declared.cmp.Ordering.TheVariants.{Less}
use Rattle.std.specs.Ordering.{is_lt}
use Rattle.std.proofs.lemmas.Bool.Decides.{nat_tests}
use Rattle.std.proofs.lemmas.Bool.{eqb-true}
use Rattle.std.proofs.lemmas.List.{append-nil, length-map, map-append, nil_from_length}
use Rattle.std.proofs.lemmas.List.Concat.{flat_map-append}
use Rattle.std.proofs.lemmas.List.Folds.{list_any-append}
use Rattle.st_core.specs.declared.types.Pid.{Pid}
use Rattle.st_core.specs.declared.types.Event.{Event}
use Rattle.st_core.specs.declared.types.Act.{Act}
use Rattle.st_core.specs.Pid.{pid_eq, pid_cmp, IsBelow, IsRising}
use Rattle.st_core.specs.Run.{Stream, pids_of}
use Rattle.st_core.specs.Streams.{is_own, added, with_event, unlisted, AreOwn, IsDraft}
use Rattle.st_core.proofs.ForCallers.{IsBelow-trans, IsRising-push, pid_eq-true, right_of, own_push}
use Rattle.st_text.specs.declared.line.Line.{Line}
use Rattle.st_text.specs.declared.line.Line.TheVariants as lines
use Rattle.st_text.specs.declared.fault.ReadFault.{ReadFault}
use Rattle.st_text.specs.declared.fault.ReadFault.TheVariants as faults
use Rattle.st_text.specs.Text.{Contents, process_lines, act_lines, acts_or_none, body, ended}
use Rattle.st_text.specs.Text.{spelling, is_listed, is_remote, unlisted_act}
use Rattle.st_text.specs.Parsing.{line_of}
use Rattle.st_text.specs.Fault.{cut, sayings, said, pids, pid_of, last_of, last_passes, has_acts}
use Rattle.st_text.specs.Fault.{is_event, is_act, is_acts, may_follow, line_fault, first_fault}
use Rattle.st_text.specs.Fault.{first_of, truncated, needless, unknown_from, closing_fault}
use Rattle.st_text.specs.Fault.{fault_within}
use Rattle.st_text.specs.Parts.Builder.{so_far}
use Rattle.st_text.specs.Answer.{Reads}
use Rattle.st_text.proofs.Newlines.{spelled_by, said_back, none_of}
use Rattle.st_text.proofs.CountLimits.{Passes, passes, all_few}
use Rattle.st_text.proofs.GoodLines.{count-append, count-cons}
use Rattle.st_text.proofs.BuilderFaults.{stands_is}
use Rattle.st_text.proofs.BuilderSteps.{so_far_open, so_far_event, so_far_begin, so_far_act}
use Rattle.st_text.proofs.BuilderSteps.{added_pids, last_cons, pids_push}
use Rattle.st_text.proofs.Headers.{spelled_whole, body_fits}
use Rattle.st_text.proofs.ListedPids.{own_events, none_unlisted}
use Rattle.st_text.proofs.ClosingFaults.{place_of, place_or, streams_place, acts_place}
use Rattle.st_text.proofs.CutterEnd.{all_of, all_events}
use Rattle.st_text.proofs.GoodText.{process_pids, act_pids}
use Rattle.st_text.specs.declared.limits.Limits.{Limits}

-- the lines are a header and what these streams and acts spell
pub record Gathered (ls : List Line) : Type 0 where
  pub wide : Bool
  pub streams : List Stream
  pub acts : Option (List Act)
  pub lines : ls ≡ so_far wide streams acts
  pub draft : IsDraft streams

-- ---- what the lines so far tell

so_far_pids : (wide : Bool) (ss : List Stream) (o : Option (List Act))
    → pids (so_far wide ss o) ≡ pids_of ss
so_far_pids wide ss o =
    flat_map-append pid_of (flat_map process_lines ss) (act_lines o)
    ∙ rw (process_pids ss, act_pids o) (append-nil (pids_of ss))

pids_are : (ls : List Line) (g : Gathered ls) → pids ls ≡ pids_of g.streams
pids_are ls g = ap pids g.lines ∙ so_far_pids g.wide g.streams g.acts

events_begin_none : (es : List Event) → list_any is_acts (map lines.Event es) ≡ false
events_begin_none [] = refl
events_begin_none (e ∷ es) = events_begin_none es

streams_begin_none : (ss : List Stream) → list_any is_acts (flat_map process_lines ss) ≡ false
streams_begin_none [] = refl
streams_begin_none (s ∷ ss) =
    list_any-append is_acts (process_lines s) (flat_map process_lines ss)
    ∙ rw (events_begin_none s.events, streams_begin_none ss) refl

acts_begin : (o : Option (List Act)) → list_any is_acts (act_lines o) ≡ is_some o
acts_begin None = refl
acts_begin (Some list) = refl

begun_is : (ls : List Line) (g : Gathered ls) → has_acts ls ≡ is_some g.acts
begun_is ls g =
    ap has_acts g.lines ∙ list_any-append is_acts (flat_map process_lines g.streams)
    (act_lines g.acts)
    ∙ rw (streams_begin_none g.streams) (acts_begin g.acts)

left_of : (a b : Bool) → (a && b) ≡ true → a ≡ true
left_of true b e = refl
left_of false b e = absurd cc

follows : (limits : Limits) (ls : List Line) (l : Line) (g : Gathered ls) → Passes limits ls l
    → may_follow (is_some g.acts) (last_of (pids_of g.streams)) l ≡ true
follows limits ls l g p =
    let open_to = g.wide || not (is_remote l) in
    let stands =
    stands_is ls _ g.wide (is_some g.acts) (last_of (pids_of g.streams)) l g.lines (begun_is ls g)
    (ap last_of (pids_are ls g)) in
    left_of (may_follow (is_some g.acts) (last_of (pids_of g.streams)) l) open_to
    (sym stands ∙ p.stands)

none_begun : (o : Option (List Act)) → not (is_some o) ≡ true → o ≡ None
none_begun None e = refl
none_begun (Some list) e = absurd cc

some_begun : (o : Option (List Act)) → is_some o ≡ true → (list : List Act) × (o ≡ Some list)
some_begun None e = absurd cc
some_begun (Some list) e = (list, refl)

some_last : (o : Option Pid) → last_passes (λ q. true) o ≡ true → (p : Pid) × (o ≡ Some p)
some_last None e = absurd cc
some_last (Some p) e = (p, refl)

-- ---- a process

is_less : (o : Ordering) → not (is_lt o) ≡ false → o ≡ Less
is_less Less e = refl
is_less o e = absurd cc

all_below : (ps : List Pid) (q : Pid) → IsRising ps
    → last_passes (λ r. not (is_lt (pid_cmp r q))) (last_of ps) ≡ false
    → AllByRecursion (λ r. IsBelow r q) ps
all_below [] q rising e = tt
all_below (p ∷ []) q rising e = (is_less (pid_cmp p q) e, tt)
all_below (p ∷ r ∷ ps) q rising e =
    let later =
    all_below (r ∷ ps) q rising.1
    (ap (last_passes (λ x. not (is_lt (pid_cmp x q)))) (sym (last_cons p r ps))
    ∙ e) in
    (IsBelow-trans p r q rising.0.0 later.0, later)

add_process : (limits : Limits) (ls : List Line) (g : Gathered ls) (q : Pid)
    → Passes limits ls (lines.Process q)
    → Gathered (ls ++ lines.Process q ∷ [])
add_process limits ls g q p =
    let none : g.acts ≡ None = none_begun g.acts (follows limits ls (lines.Process q) g p) in
    let order =
    sym (ap (λ (o : Option Pid). last_passes (λ r. not (is_lt (pid_cmp r q))) o)
    (ap last_of (pids_are ls g)))
    ∙ p.order in
    let above = all_below (pids_of g.streams) q g.draft.rising order in
    let new : List Stream = g.streams ++ record { pid = q; events = [] } ∷ [] in
    let new_pids : pids_of new ≡ pids_of g.streams ++ q ∷ [] =
    map-append (λ (x : Stream). x.pid) g.streams (record { pid = q; events = [] } ∷ []) in
    record {
      wide = g.wide;
      streams = new;
      acts = None;
      lines =
          ap (λ (x : List Line). x ++ lines.Process q ∷ [])
          (g.lines ∙ ap (so_far g.wide g.streams) none)
          ∙ sym (so_far_open g.wide g.streams q);
      draft = record {
        rising = subst IsRising (sym new_pids)
            (IsRising-push (pids_of g.streams) q g.draft.rising above);
        own = own_push g.streams q g.draft.own;
      };
    }

-- ---- an event

own_at : (e : Event) (events : List Event) (q : Pid)
    → AllByRecursion (λ x. is_own q x ≡ true) events
    → is_own q e ≡ true → AllByRecursion (λ x. is_own q x ≡ true) (events ++ e ∷ [])
own_at e [] q own mine = (mine, tt)
own_at e (x ∷ events) q own mine = (own.0, own_at e events q own.1 mine)

abbrev OwnStream : Stream → Type 0
OwnStream s = AllByRecursion (λ x. is_own s.pid x ≡ true) s.events

own_with : (p : Pid) (e : Event) (s : Stream) → is_own p e ≡ true → OwnStream s
    → OwnStream (with_event p e s)
own_with p e s mine own = by (pid_eq s.pid p) refl
  where
    by : (t : Bool) → pid_eq s.pid p ≡ t
        → OwnStream (cond t (record s { events = s.events ++ e ∷ [] }) s)
    by true is = own_at e s.events s.pid own
        (ap (λ (q : Pid). is_own q e) (pid_eq-true s.pid p is) ∙ mine)
    by false is = own

own_added : (ss : List Stream) (p : Pid) (e : Event) → is_own p e ≡ true → AreOwn ss
    → AreOwn (added ss p e)
own_added [] p e mine own = tt
own_added (s ∷ ss) p e mine own = (own_with p e s mine own.0, own_added ss p e mine own.1)

is_mine : (o : Option Pid) (p : Pid) (e : Event) → o ≡ Some p
    → last_passes (λ q. not (is_own q e)) o ≡ false
    → is_own p e ≡ true
is_mine o p e at own = by (is_own p e) (sym (ap (last_passes (λ q. not (is_own q e))) at) ∙ own)
  where
    by : (b : Bool) → not b ≡ false → b ≡ true
    by true e = refl
    by false e = absurd cc

add_event : (limits : Limits) (ls : List Line) (g : Gathered ls) (e : Event)
    → Passes limits ls (lines.Event e)
    → Gathered (ls ++ lines.Event e ∷ [])
add_event limits ls g e p =
    let f = follows limits ls (lines.Event e) g p in
    let none : g.acts ≡ None =
    none_begun g.acts (left_of _ (last_passes (λ q. true) (last_of (pids_of g.streams))) f) in
    let at = some_last (last_of (pids_of g.streams)) (right_of (not (is_some g.acts)) _ f) in
    let mine : is_own at.0 e ≡ true =
    is_mine (last_of (pids ls)) at.0 e (ap last_of (pids_are ls g) ∙ at.1) p.own in
    let same : pids (ls ++ lines.Event e ∷ []) ≡ pids ls =
    pids_push ls (lines.Event e) ∙ append-nil (pids ls) in
    record {
      wide = g.wide;
      streams = added g.streams at.0 e;
      acts = None;
      lines =
          ap (λ (x : List Line). x ++ lines.Event e ∷ [])
          (g.lines ∙ ap (so_far g.wide g.streams) none)
          ∙ sym (so_far_event g.wide g.streams at.0 e g.draft.rising at.1);
      draft = record {
        rising = subst IsRising (sym (added_pids g.streams at.0 e)) g.draft.rising;
        own = own_added g.streams at.0 e mine g.draft.own;
      };
    }

-- ---- the word and an act

add_word : (limits : Limits) (ls : List Line) (g : Gathered ls) → Passes limits ls lines.Acts
    → Gathered (ls ++ lines.Acts ∷ [])
add_word limits ls g p =
    let none : g.acts ≡ None = none_begun g.acts (follows limits ls lines.Acts g p) in
    let same : pids (ls ++ lines.Acts ∷ []) ≡ pids ls =
    pids_push ls lines.Acts ∙ append-nil (pids ls) in
    record {
      wide = g.wide;
      streams = g.streams;
      acts = Some [];
      lines =
          ap (λ (x : List Line). x ++ lines.Acts ∷ []) (g.lines ∙ ap (so_far g.wide g.streams) none)
          ∙ sym (so_far_begin g.wide g.streams);
      draft = g.draft;
    }

add_act : (limits : Limits) (ls : List Line) (g : Gathered ls) (a : Act)
    → Passes limits ls (lines.Act a)
    → Gathered (ls ++ lines.Act a ∷ [])
add_act limits ls g a p =
    let begun = some_begun g.acts (follows limits ls (lines.Act a) g p) in
    let same : pids (ls ++ lines.Act a ∷ []) ≡ pids ls =
    pids_push ls (lines.Act a) ∙ append-nil (pids ls) in
    record {
      wide = g.wide;
      streams = g.streams;
      acts = Some (begun.0 ++ a ∷ []);
      lines =
          ap (λ (x : List Line). x ++ lines.Act a ∷ [])
          (g.lines ∙ ap (so_far g.wide g.streams) begun.1)
          ∙ sym (so_far_act g.wide g.streams begun.0 a);
      draft = g.draft;
    }

-- ---- all lines

add_line : (limits : Limits) (ls : List Line) (g : Gathered ls) (l : Line) → Passes limits ls l
    → Gathered (ls ++ l ∷ [])
add_line limits ls g (lines.Header b) p = let no = follows limits ls (lines.Header b) g p in
    absurd cc
add_line limits ls g (lines.Process q) p = add_process limits ls g q p
add_line limits ls g (lines.Event e) p = add_event limits ls g e p
add_line limits ls g lines.Acts p = add_word limits ls g p
add_line limits ls g (lines.Act a) p = add_act limits ls g a p

-- lines without a fault after good ones
record GoOn (ls : List Line) (rs : List (Option Line)) : Type 0 where
  more : List Line
  says : rs ≡ map Some more
  gathered : Gathered (ls ++ more)

go_on : (limits : Limits) (ls : List Line) (rs : List (Option Line)) → Gathered ls
    → first_fault limits ls rs ≡ None
    → GoOn ls rs
unfolding first_fault line_fault
go_on limits ls [] g e =
    record { more = []; says = refl; gathered = subst Gathered (sym (append-nil ls)) g }
go_on limits ls (None ∷ rs) g e = absurd cc
go_on limits ls (Some l ∷ rs) g e =
    let p = none_of (line_fault limits ls (Some l)) (first_fault limits (ls ++ l ∷ []) rs) e in
    let h = go_on limits (ls ++ l ∷ []) rs (add_line limits ls g l (passes limits ls l p.0)) p.1 in
    record {
      more = l ∷ h.more;
      says = ap (λ (x : List (Option Line)). Some l ∷ x) h.says;
      gathered = subst Gathered (append_assoc ls (l ∷ []) h.more) h.gathered;
    }

begin : (limits : Limits) (l : Line) → Passes limits [] l → Gathered (l ∷ [])
begin limits (lines.Header b) p =
    let none : List Stream = [] in
    record {
      wide = b;
      streams = none;
      acts = None;
      lines = refl;
      draft = record { rising = tt; own = tt };
    }
begin limits l p = let no = p.stands in absurd cc

gather : (limits : Limits) (rs : List (Option Line)) → first_fault limits [] rs ≡ None
    → 0 < length rs → GoOn [] rs
unfolding first_fault line_fault
gather limits [] e some = absurd (omega arith)
gather limits (None ∷ rs) e some = absurd cc
gather limits (Some l ∷ rs) e some =
    let p = none_of (line_fault limits [] (Some l)) (first_fault limits (l ∷ []) rs) e in
    let h = go_on limits (l ∷ []) rs (begin limits l (passes limits [] l p.0)) p.1 in
    record {
      more = l ∷ h.more;
      says = ap (λ (x : List (Option Line)). Some l ∷ x) h.says;
      gathered = h.gathered;
    }

-- ---- if no line names an unlisted pid

none_known : (o : Option ReadFault) (f : ReadFault) → o ≡ Some f → o ≡ None → ⊥
none_known o f e n = cc

none_at : (all : List Stream) (n : ℕ) (ss : List Stream) (rest : List Line) (o : Option (Pid × ℕ))
    → place_of all n ss rest o
    → unknown_from (pids_of all) n (flat_map process_lines ss ++ rest) ≡ None
    → (o ≡ None) × (unknown_from (pids_of all) (n + length (flat_map process_lines ss)) rest ≡ None)
none_at all n ss rest None h e = (refl, sym h ∙ e)
none_at all n ss rest (Some x) h e = absurd (none_known _ _ h.0 e)

none_place : (o : Option ℕ) (n : ℕ) → place_or o n None ≡ None → o ≡ None
none_place None n e = refl
none_place (Some i) n e = absurd cc

record AreListed (ss : List Stream) (o : Option (List Act)) : Type 0 where
  events : unlisted ss ≡ None
  acts : list_all (is_listed (pids_of ss)) (acts_or_none o) ≡ true

are_listed : (wide : Bool) (ss : List Stream) (o : Option (List Act)) → IsRising (pids_of ss)
    → unknown_from (pids_of ss) 1 (so_far wide ss o) ≡ None → AreListed ss o
unfolding unknown_from
are_listed wide ss o rising e =
    let place = streams_place ss ss 2 (act_lines o) (own_events ss rising) rising in
    let p = none_at ss 2 ss (act_lines o) (unlisted ss) place e in
    let at = 2 + length (flat_map process_lines ss) in
    let none : unlisted_act ss o ≡ None =
    none_place (unlisted_act ss o) (at + 1) (sym (acts_place ss o at) ∙ p.1) in
    record { events = p.0; acts = none_unlisted (is_listed (pids_of ss)) (acts_or_none o) none }

-- ---- the whole

act_count : (list : List Act) → count_by is_act (map lines.Act list) ≡ length list
act_count [] = refl
act_count (a ∷ list) = omega
    (arith, count-cons is_act (lines.Act a) (map lines.Act list), act_count list)

word_count : (o : Option (List Act)) → count_by is_act (act_lines o) ≡ length (acts_or_none o)
word_count None = refl
word_count (Some list) =
    omega (arith, count-cons is_act lines.Acts (map lines.Act list), act_count list)

event_count : (es : List Event) → count_by is_act (map lines.Event es) ≡ 0
event_count [] = refl
event_count (e ∷ es) = omega
    (arith, count-cons is_act (lines.Event e) (map lines.Event es), event_count es)

stream_count : (ss : List Stream) → count_by is_act (flat_map process_lines ss) ≡ 0
stream_count [] = refl
stream_count (s ∷ ss) =
    let split = count-append is_act (process_lines s) (flat_map process_lines ss) in
    let first = count-cons is_act (lines.Process s.pid) (map lines.Event s.events) in
    omega (arith, split, first, event_count s.events, stream_count ss)

all_acts : (wide : Bool) (ss : List Stream) (o : Option (List Act))
    → count_by is_act (so_far wide ss o) ≡ length (acts_or_none o)
all_acts wide ss o =
    let header = count-cons is_act (lines.Header wide) (flat_map process_lines ss ++ act_lines o) in
    let split = count-append is_act (flat_map process_lines ss) (act_lines o) in
    omega (arith, header, split, word_count o, stream_count ss)

-- whole lines, and at least one
record IsWhole (bytes : List ℕ) : Type 0 where
  over : (cut bytes).1 ≡ []
  some : 0 < length (cut bytes).0

is_whole : (bytes : List ℕ) → truncated bytes ≡ None → IsWhole bytes
is_whole bytes e = by (eqb (length (cut bytes).1) 0) (eqb (length (cut bytes).0) 0) refl refl e
  where
    by : (a b : Bool) → eqb (length (cut bytes).1) 0 ≡ a → eqb (length (cut bytes).0) 0 ≡ b
        → cond (a && not b) None (Some faults.Truncated) ≡ None → IsWhole bytes
    by true false x y e =
        record {
          over = nil_from_length (cut bytes).1 (eqb-true (length (cut bytes).1) 0 x);
          some = grind
              (arith, nat_tests);
        }
    by true true x y e = absurd cc
    by false b x y e = absurd cc

bundle_of : (limits : Limits) (bytes : List ℕ) (ls : List Line) → length bytes ≤ limits.bytes
    → IsWhole bytes
    → sayings bytes ≡ map Some ls
    → first_fault limits [] (sayings bytes) ≡ None → closing_fault ls ≡ None → Gathered ls
    → (c : Contents) × Reads limits bytes c
bundle_of limits bytes ls small whole says clean closed g =
    let few = all_few limits ls (ap (first_fault limits []) (sym says) ∙ clean) in
    let c : Contents = record { streams = g.streams; acts = g.acts } in
    let spelt : sayings bytes ≡ map Some (lines.Header g.wide ∷ body c) =
    says ∙ ap (map Some) g.lines in
    let all : bytes ≡ flat_map ended ls =
    spelled_by bytes ls says ∙ ap (λ (x : List ℕ). flat_map ended ls ++ x) whole.over
    ∙ append-nil (flat_map ended ls) in
    let spelled : bytes ≡ spelling c =
    spelled_whole limits bytes g.wide c spelt clean (ap closing_fault (sym g.lines) ∙ closed)
    (all ∙ ap (flat_map ended) g.lines) in
    let known : unknown_from (pids ls) 1 ls ≡ None =
    (none_of (needless ls) (unknown_from (pids ls) 1 ls) closed).1 in
    let listed =
    are_listed g.wide g.streams g.acts g.draft.rising
    (sym (rw (pids_are ls g) (ap (unknown_from (pids_of g.streams) 1) g.lines)) ∙ known) in
    let processes : length g.streams ≡ length (pids ls) =
    omega (arith, ap length (pids_are ls g), length-map g.streams (λ (x : Stream). x.pid)) in
    let events : count_by is_event ls ≡ length (all_of g.streams) =
    ap (count_by is_event) g.lines ∙ all_events g.wide g.streams g.acts in
    let acts : count_by is_act ls ≡ length (acts_or_none g.acts) =
    ap (count_by is_act) g.lines ∙ all_acts g.wide g.streams g.acts in (
      c,
      record {
        text = record {
          bundle = record {
            streams = record { draft = g.draft; listed = listed.events };
            listed = listed.acts;
            fits = body_fits bytes g.wide c spelt;
          };
          spelled = spelled;
        };
        within = record {
          bytes = omega (arith, small, ap length spelled);
          processes = omega (arith, processes, few.processes);
          events = omega (arith, events, few.events);
          acts = omega (arith, acts, few.acts);
        };
      },
    )

pub readable : (limits : Limits) (bytes : List ℕ) → fault_within limits bytes ≡ None
    → (c : Contents) × Reads limits bytes c
unfolding fault_within
readable limits bytes e = by (nat_lt limits.bytes (length bytes)) refl e
  where
    later : Option ReadFault
    later = first_of (truncated bytes) (closing_fault (said (sayings bytes)))

    within : length bytes ≤ limits.bytes → first_of (first_fault limits [] (sayings bytes)) later
        ≡ None
        → (c : Contents) × Reads limits bytes c
    within small e =
        let p = none_of (first_fault limits [] (sayings bytes)) later e in
        let q = none_of (truncated bytes) (closing_fault (said (sayings bytes))) p.1 in
        let whole = is_whole bytes q.0 in
        let h = gather limits (sayings bytes) p.0
        (omega (arith, whole.some, length-map (cut bytes).0 line_of)) in
        let closed : closing_fault h.more ≡ None =
        sym (ap (λ (x : List (Option Line)). closing_fault (said x)) h.says
        ∙ ap closing_fault (said_back h.more))
        ∙ q.1 in
        bundle_of limits bytes h.more small whole h.says p.0 closed h.gathered

    by : (t : Bool) → nat_lt limits.bytes (length bytes) ≡ t
        → cond t (Some faults.TooLarge) (first_of (first_fault limits [] (sayings bytes)) later)
        ≡ None
        → (c : Contents) × Reads limits bytes c
    by true large e = absurd cc
    by false small e = within (grind (arith, nat_tests)) e
