-- Each run has a loud one, in which all processes are traced with all flags set and report all
-- their events: the same acts do the same, but a set is followed by a restore that sets all flags.
use Rattle.std.proofs.Common.{◌≡◌, ℕ, ◌⊎◌, Bool, true, false, cond, List, [], ◌∷◌, ◌++◌, map}
use Rattle.std.proofs.Common.{Option, Some, None, is_some, option_map, option_and_then}
use Rattle.std.proofs.Common.{option_to_list, inl, inr, append-nil, refl, sym, ◌∙◌, ap, subst}
use Rattle.std.specs.List.{AllByRecursion}
use Rattle.std.proofs.lemmas.Bool.{false≢true}
use Rattle.std.proofs.lemmas.List.{map-append}
use Rattle.std.proofs.lemmas.Option.{same_Some, none-some}
use Rattle.st_core.specs.declared.types.Pid.{Pid}
use Rattle.st_core.specs.declared.types.Token.{Token}
use Rattle.st_core.specs.declared.types.Component.{Component}
use Rattle.st_core.specs.declared.types.Event.{Event}
use Rattle.st_core.specs.declared.types.Act.{Act}
use Rattle.st_core.specs.Pid.{pid_eq}
use Rattle.st_core.specs.State.{LocalState, Process, State, process}
use Rattle.st_core.specs.Local.{default_token, old_component, with_component, with_set}
use Rattle.st_core.specs.Step.{Outcome, acted, actor, answers, changed, outcome_of, receiver, step}
use Rattle.st_core.specs.Run.{run_from, stream}
use Rattle.st_core.specs.Laws.{is_reset, moves_token, NoReset, ReportsEverything}
use Rattle.st_core.specs.declared.types.Act.TheVariants as act
use Rattle.st_core.specs.declared.types.Reply.TheVariants as reply
use Rattle.st_core.proofs.ForCallers.{changed_pid, leaves_others, pid_eq-refl, pid_same}
use Rattle.st_core.proofs.ForCallers.{process-map, process_after, process_pid, run_from-one}
use Rattle.st_core.proofs.ForCallers.{run_parts, step_done, step_parts, Stepped}
use Rattle.st_plan.specs.Build.{state_after}
use Rattle.st_plan.specs.Marks.{Marked, told_events}
use Rattle.st_plan.proofs.ForCallers.{append_none, IsQuiet, lifted, QuietRun, run_append}
use Rattle.st_plan.proofs.ForCallers.{stream_append, stream_silent}
use Rattle.lack_laws.specs.Wholes.{event_by, event_in, loud, loud_local, loud_token, marked_if}
use Rattle.lack_laws.specs.Wholes.{whole_from}
use Rattle.lack_laws.proofs.LoudActs.{acted_louder, changed_loud, is_set, IsLouder, louder}
use Rattle.lack_laws.proofs.LoudActs.{louder_actor, louder_plain, louder_receiver, report_of}

-- t is s with each process loud
abbrev pub IsLoud : State → State → Type 0
IsLoud s t = (x : Pid) → process t x ≡ option_map loud (process s x)

abbrev pub told_if : Bool → Option Event → List Event
told_if b event = cond b (option_to_list event) []

-- acts that do from t what the act did from s, and report its event
record IsHeard (top : ℕ) (s t : State) (a : Act) (o : Outcome) : Type 0 where
  pub acts : List Act
  pub os : List Outcome
  pub runs : run_from top t acts ≡ Some os
  pub one_trace : NoReset acts
  pub whole : ReportsEverything t acts os
  pub tells : (p : Pid) → stream acts os p ≡ told_if (pid_eq (actor a) p) (event_in top s a)
  pub after : IsLoud o.after (state_after t os)

module _ (top : ℕ) (s t : State) (a : Act) (o : Outcome) (x : Stepped top s a o) (is : IsLoud s t)
  where
    event_here : event_in top s a ≡ event_by top x.before a
    event_here = ap (option_and_then (λ r. event_by top r a)) x.is_before

    actor_there : process t (actor a) ≡ Some (loud x.before)
    actor_there = is (actor a) ∙ ap (option_map loud) x.is_before

    module _ (plain : is_reset a ≡ false) (part : IsLouder top x.before a x.done) where
      abbrev same_act : Act
      same_act = louder a

      abbrev then_out : Outcome
      then_out = outcome_of t same_act part.part

      same_actor : process t (actor same_act) ≡ Some (loud x.before)
      same_actor = ap (process t) (louder_actor a) ∙ actor_there

      same_receiver : process t (receiver same_act) ≡ Some (loud x.other)
      same_receiver = ap (process t) (louder_receiver a) ∙ is (receiver a)
          ∙ ap (option_map loud) x.is_other

      then_after : IsLoud o.after then_out.after
      then_after p =
          process-map (changed same_act part.part) (changed_pid same_act part.part) t p
          ∙ ap (option_map (changed same_act part.part)) (is p)
          ∙ elim (process s p) as (λ found. option_map (changed same_act part.part)
          (option_map loud found)
          ≡ option_map loud (option_map (changed a x.done) found)) [
            | None ↦ refl
            | Some r ↦ ap (λ (y : Process). Some y)
                (changed_loud top x.before a x.done part plain r)
          ]
          ∙ ap (option_map loud) (sym (process_after top s a o x p))

      same_heard : IsHeard top s t a o
      same_heard = record {
        acts = same_act ∷ [];
        os = then_out ∷ [];
        runs = run_from-one top t same_act then_out
            (step_done top t same_act (loud x.before) (loud x.other) part.part same_actor
            same_receiver part.is_part);
        one_trace = (louder_plain a plain, tt);
        whole = (
          λ r at moves. part.moves
              (subst (λ (y : Process). moves_token y same_act ≡ true)
              (same_Some r _ (sym at ∙ same_actor)) moves),
          tt,
        );
        tells = λ p. append-nil (told_if (pid_eq (actor same_act) p) part.part.report)
            ∙ ap (λ q. told_if (pid_eq q p) part.part.report) (louder_actor a)
            ∙ ap (told_if (pid_eq (actor a) p)) (sym (event_here ∙ part.event));
        after = then_after;
      }

-- A SET

-- the token of a process after a set
abbrev set_token : Pid → Component → Option Token → Token
set_token p c None = with_component c (default_token p)
set_token p c (Some t) = with_component c t

set_loud : (p : Pid) (c : Component) (token : Option Token) (clock last : ℕ) (traced : Bool)
    → (let l : LocalState = record { token = token; clock = clock; last = last; traced = traced } in
    let made : LocalState = record (with_set p c (loud_local l)) {
      token =
          Some (loud_token (set_token p c token));
    } in
    made ≡ loud_local (with_set p c l))
set_loud p c None clock last traced = refl
set_loud p c (Some t) clock last traced = refl

abbrev Stays : Act → Type 0
Stays a = (r : Process) → moves_token r a ≡ false

pub stays_whole : (s : State) (acts : List Act) (os : List Outcome) → AllByRecursion Stays acts
    → ReportsEverything s acts os
stays_whole s [] os all = tt
stays_whole s (a ∷ acts) [] all = tt
stays_whole s (a ∷ acts) (o ∷ os) all = (
  λ r at moves. absurd (false≢true (sym (all.0 r) ∙ moves)),
  stays_whole o.after acts os all.1,
)

told_none : (b : Bool) → told_if b None ≡ []
told_none true = refl
told_none false = refl

module _ (top : ℕ) (s t : State) (p : Pid) (c : Component) (o : Outcome)
    (h : step top s (act.Set p c) ≡ Some o)
    (is : IsLoud s t) where
  abbrev set_act : Act
  set_act = act.Set p c

  set_heard : IsHeard top s t set_act o
  set_heard =
      let x = step_parts top s set_act o h in
      let r = x.before in
      let l = r.local in
      let who : r.pid ≡ p = process_pid s p r x.is_before in
      let token = loud_token (set_token p c l.token) in
      let acts = set_act ∷ act.Restore p token ∷ [] in
      let made = with_set p c (loud_local l) in
      let now : LocalState = record made { token = Some token } in
      let end = loud_local (with_set p c l) in
      let first : IsQuiet top p (loud_local l) set_act made =
      record {
        reply = reply.Old (old_component c (loud_local l));
        alone = refl;
        acts = λ queue.
            refl;
      } in
      let second : IsQuiet top p made (act.Restore p token) now =
      record { reply = reply.Previous made.token; alone = refl; acts = λ queue. refl } in
      let quiet : QuietRun top p (loud_local l) acts end =
      (made, first, (now, second, set_loud p c l.token l.clock l.last l.traced)) in
      let rest = lifted top p acts t (loud r) (loud_local l) end
      (actor_there top s t set_act o x is) refl quiet in
      let own : Process = record r { local = with_set p c l } in
      let part : x.done ≡ answers r (with_set r.pid c l) (reply.Old (old_component c l)) =
      sym (same_Some _ x.done x.is_done) in
      let mine : changed set_act x.done r ≡ own =
      ap (λ d. changed set_act d r) part
      ∙ ap (λ q. cond (pid_eq q p) (let y : Process = record r { local = with_set q c l } in y) r)
      who
      ∙ ap (λ b. cond b own r) (pid_eq-refl p) in
      record {
        acts = acts;
        os = rest.os;
        runs = rest.runs;
        one_trace = (refl, (refl, tt));
        whole = stays_whole t acts rest.os ((λ r. refl), ((λ r. refl), tt));
        tells = λ q. stream_silent acts rest.os q rest.silent
            ∙ sym (ap (told_if (pid_eq p q)) (event_here top s t set_act o x is)
            ∙ told_none (pid_eq p q));
        after = λ q. elim (pid_eq q p) as (λ b. pid_eq q p ≡ b
            → process (state_after t rest.os) q ≡ option_map loud (process o.after q)) [
              | true ↦ λ same. subst (λ q. process (state_after t rest.os) q
                  ≡ option_map loud (process o.after q))
                  (sym (pid_same q p same))
                  (rest.here
                  ∙ sym (ap (option_map loud) (process_after top s set_act o x p
                  ∙ ap (option_map (changed set_act x.done)) x.is_before
                  ∙ ap (λ (y : Process). Some y) mine)))
              | false ↦ λ other. rest.others q other ∙ is q
                  ∙ ap (option_map loud) (sym ((leaves_others top s set_act o h).untouched q other))
            ] refl;
      }

-- EACH STEP

abbrev IsSet : Act → Type 0
IsSet a = (p : Pid) × (c : Component) × (a ≡ act.Set p c)

set_or_not : (a : Act) → IsSet a ⊎ (is_set a ≡ false)
set_or_not (act.Set p c) = inl (p, c, refl)
set_or_not a = inr refl

step_heard : (top : ℕ) (s t : State) (a : Act) (o : Outcome) → step top s a ≡ Some o
    → is_reset a ≡ false → IsLoud s t → IsHeard top s t a o
step_heard top s t a o h plain is = elim (set_or_not a) [
  | inl set ↦ subst (λ b. IsHeard top s t b o) (sym set.2)
      (set_heard top s t set.0 set.1 o (ap (step top s) (sym set.2) ∙ h) is)
  | inr other ↦
      let x = step_parts top s a o h in
      same_heard top s t a o x is plain (acted_louder top a x.before x.done x.is_done other)
]

step_agrees : (top : ℕ) (s : State) (a : Act) (o : Outcome) → step top s a ≡ Some o → (e : Event)
    → o.report ≡ Some e → event_in top s a ≡ Some e
step_agrees top s a o h e reported =
    let x = step_parts top s a o h in
    let r = x.before in
    let done : x.done.report ≡ Some e = ap (λ (y : Outcome). y.report) x.is_outcome ∙ reported in
    elim (set_or_not a) [
      | inl set ↦
          let acts : acted top r (act.Set set.0 set.1) ≡ Some x.done = ap (acted top r) (sym set.2)
          ∙ x.is_done in
          absurd (none-some e (ap report_of (same_Some _ x.done acts) ∙ done))
      | inr other ↦
          let part = acted_louder top a r x.done x.is_done other in
          ap (option_and_then (λ y. event_by top y a)) x.is_before ∙ part.event ∙ part.agrees e done
    ]

-- RUNS

-- a run from t that does what the acts do from s, and reports all their events
pub record AreHeard (top : ℕ) (s t : State) (acts : List Act) (os : List Outcome) : Type 0 where
  pub heard : List Act
  pub outcomes : List Outcome
  pub runs : run_from top t heard ≡ Some outcomes
  pub one_trace : NoReset heard
  pub whole : ReportsEverything t heard outcomes
  pub tells : (p : Pid) → stream heard outcomes p ≡ map (λ m. m.event) (whole_from top s acts os p)

pub whole_append : (top : ℕ) (s : State) (xs ys : List Act) (os ps : List Outcome)
    → run_from top s xs ≡ Some os
    → ReportsEverything s xs os → ReportsEverything (state_after s os) ys ps
    → ReportsEverything s (xs ++ ys) (os ++ ps)
whole_append top s [] ys os ps runs one two =
    let none : [] ≡ os = same_Some [] os runs in
    subst (λ zs. ReportsEverything s ys (zs ++ ps)) none
    (subst (λ zs. ReportsEverything (state_after s zs) ys ps) (sym none) two)
whole_append top s (a ∷ xs) ys os ps runs one two =
    let t = run_parts top s a xs os runs in
    let first = subst (ReportsEverything s (a ∷ xs)) t.is_whole one in
    let last = subst (λ zs. ReportsEverything (state_after s zs) ys ps) t.is_whole two in
    subst (λ zs. ReportsEverything s (a ∷ (xs ++ ys)) (zs ++ ps)) (sym t.is_whole)
    (first.0, whole_append top t.first.after xs ys t.others ps t.is_rest first.1 last)

marked_events : (mine told : Bool) (event : Option Event)
    → map (λ (m : Marked). m.event) (cond mine (marked_if told event) []) ≡ told_if mine event
marked_events true told None = refl
marked_events true told (Some e) = refl
marked_events false told event = refl

pub are_heard : (top : ℕ) (s t : State) (acts : List Act) (os : List Outcome)
    → run_from top s acts ≡ Some os → NoReset acts → IsLoud s t → AreHeard top s t acts os
are_heard top s t [] os h none is = record {
  heard = [];
  outcomes = [];
  runs = refl;
  one_trace = tt;
  whole = tt;
  tells = λ p. refl;
}
are_heard top s t (a ∷ acts) os h none is =
    let x = run_parts top s a acts os h in
    let o = x.first in
    let one = step_heard top s t a o x.is_first none.0 is in
    let later = are_heard top o.after (state_after t one.os) acts x.others x.is_rest none.1
    one.after in
    let tail = λ (p : Pid). whole_from top o.after acts x.others p in
    let here = λ (p : Pid). cond (pid_eq (actor a) p)
    (marked_if (is_some o.report) (event_in top s a)) [] in
    record {
      heard = one.acts ++ later.heard;
      outcomes = one.os ++ later.outcomes;
      runs = run_append top t one.acts later.heard one.os later.outcomes one.runs later.runs;
      one_trace = append_none one.acts later.heard one.one_trace later.one_trace;
      whole = whole_append top t one.acts later.heard one.os later.outcomes one.runs one.whole
          later.whole;
      tells = λ p.
          stream_append top t one.acts later.heard one.os later.outcomes p one.runs
          ∙ ap (λ es. es ++ stream later.heard later.outcomes p) (one.tells p
          ∙ sym (marked_events (pid_eq (actor a) p) (is_some o.report) (event_in top s a)))
          ∙ ap (λ es. map (λ (m : Marked). m.event) (here p) ++ es) (later.tells p)
          ∙ sym (map-append (λ (m : Marked). m.event) (here p) (tail p))
          ∙ ap (λ zs. map (λ (m : Marked). m.event) (whole_from top s (a ∷ acts) zs p))
          (sym x.is_whole);
    }

-- the told events of two joined lists are those of the first and then those of the second
pub told_append : (xs ys : List Marked) → told_events (xs ++ ys) ≡ told_events xs ++ told_events ys
told_append [] ys = refl
told_append (m ∷ xs) ys =
    let rest = told_append xs ys in
    elim m.told as (λ b. cond b (m.event ∷ told_events (xs ++ ys)) (told_events (xs ++ ys))
    ≡ cond b (m.event ∷ told_events xs) (told_events xs) ++ told_events ys) [
      | true ↦ ap (λ es. m.event ∷ es) rest
      | false ↦ rest
    ]

marks_told : (mine : Bool) (reported event : Option Event)
    → ((e : Event) → reported ≡ Some e → event ≡ Some e)
    → told_events (cond mine (marked_if (is_some reported) event) []) ≡ told_if mine reported
marks_told false reported event agrees = refl
marks_told true None None agrees = refl
marks_told true None (Some e) agrees = refl
marks_told true (Some e) None agrees = absurd (none-some e (agrees e refl))
marks_told true (Some e) (Some d) agrees = ap (λ x. x ∷ []) (same_Some d e (agrees e refl))

pub whole_told : (top : ℕ) (s : State) (acts : List Act) (os : List Outcome) (p : Pid)
    → run_from top s acts ≡ Some os → told_events (whole_from top s acts os p) ≡ stream acts os p
whole_told top s [] os p h = refl
whole_told top s (a ∷ acts) os p h =
    let x = run_parts top s a acts os h in
    let o = x.first in
    let mine = pid_eq (actor a) p in
    let here = cond mine (marked_if (is_some o.report) (event_in top s a)) [] in
    let tail = whole_from top o.after acts x.others p in
    let one : told_events (here ++ tail) ≡ told_if mine o.report ++ stream acts x.others p =
    told_append here tail
    ∙ ap (λ es. es ++ told_events tail) (marks_told mine o.report (event_in top s a)
    (step_agrees top s a o x.is_first))
    ∙ ap (λ es. told_if mine o.report ++ es) (whole_told top o.after acts x.others p x.is_rest) in
    subst (λ zs. told_events (whole_from top s (a ∷ acts) zs p) ≡ stream (a ∷ acts) zs p)
    (sym x.is_whole) one
