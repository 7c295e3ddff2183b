-- An act's report is its actor's own event, so adding it to the actor's stream keeps the streams
-- those of the run.
use Rattle.std.proofs.Common.{◌≡◌, ℕ, ◌+◌, ◌<◌, ◌⊎◌, inl, inr, zero, suc, true, false, cond, not}
use Rattle.std.proofs.Common.{◌&&◌, ◌||◌, Bool, List, [], ◌∷◌, ◌++◌, length, map, take, get_or}
use Rattle.std.proofs.Common.{Option, Some, None, is_some, option_map, option_to_list, All, refl}
use Rattle.std.proofs.Common.{sym, ◌∙◌, ap, subst, arith, if◌then◌else◌}
use Rattle.std.specs.Option.{ForSome, option_map_or}
use Rattle.std.specs.List.{AllByRecursion, AllZip, slice_get}
use Rattle.std.proofs.lemmas.List.{take_more, map_push}
use Rattle.std.proofs.lemmas.Option.{slice_get-get_or}
use Rattle.st_core.specs.declared.types.Pid.{Pid}
use Rattle.st_core.specs.declared.types.Event.{Event}
use Rattle.st_core.specs.declared.types.Reply.{Reply}
use Rattle.st_core.specs.declared.types.Act.{Act}
use Rattle.st_core.specs.Pid.{pid_eq, IsBelow, IsRising}
use Rattle.st_core.specs.State.{Process, State, zero_state}
use Rattle.st_core.specs.Step.{Outcome, actor, step}
use Rattle.st_core.specs.Run.{Stream, pids_of, run, stream}
use Rattle.st_core.specs.Streams.{stream_of, lists, names_listed, unlisted_among, unlisted}
use Rattle.st_core.specs.Streams.{with_event, added, is_own}
use Rattle.st_core.specs.Streams.{is_among, names_among, with_report, ComesLast}
use Rattle.st_core.specs.Laws.{IsReportAmong, ReportsAmong}
use Rattle.st_core.proofs.ForCallers.{pid_eq-true, pid_eq-swap, all_at, position-none, step_parts}
use Rattle.st_core.proofs.ForCallers.{run_named, run_sound, zero_pids, process_among}
use Rattle.st_check.specs.Answers.{reported_streams, AllRise}
use Rattle.st_check.proofs.Verdicts.{Rises, stream_rises}
use Rattle.std.proofs.lemmas.List.Elements.{All-map}
use Rattle.st_check.specs.Recorded.{kept_replies, IsReplayedTo}
use Rattle.st_check.proofs.OneMoreAct.{length-run, run-append, state_from-append}
use Rattle.st_check.proofs.PassedActs.{state_pids, stream_other, stream_silent, stream_own}

-- THE PROCESSES OF RECORDED STREAMS

-- recorded streams list exactly the processes of the run
lists-reported : (pids : List Pid) (acts : List Act) (os : List Outcome) (p : Pid)
    → lists (reported_streams pids acts os) p ≡ is_among pids p
lists-reported [] acts os p = refl
lists-reported (q ∷ pids) acts os p =
    elim (pid_eq q p) as (λ b.
    is_some (cond b (Some (record { pid = q; events = stream acts os q }))
    (stream_of (reported_streams pids acts os) p)) ≡ (b || is_among pids p))
    [ true ↦ refl | false ↦ lists-reported pids acts os p ]

names-reported : (pids : List Pid) (acts : List Act) (os : List Outcome) (e : Event)
    → names_listed (reported_streams pids acts os) e ≡ names_among pids e
names-reported pids acts os e =
    ap (λ b. b && option_map_or (lists (reported_streams pids acts os)) e.to true)
    (lists-reported pids acts os e.from)
    ∙ ap (λ b. is_among pids e.from && b) (to_same e.to)
  where
    to_same : (to : Option Pid) → option_map_or (lists (reported_streams pids acts os)) to true
        ≡ option_map_or (is_among pids) to true
    to_same None = refl
    to_same (Some q) = lists-reported pids acts os q

-- RUNS OF ONE MORE ACT

-- what holds for the reports of all acts holds for the last one
last_report : (pids : List Pid) (acts : List Act) (os : List Outcome) (a : Act) (o : Outcome)
    → length os ≡ length acts → AllZip (ReportsAmong pids) (acts ++ a ∷ []) (os ++ o ∷ [])
    → ReportsAmong pids a o
last_report pids [] [] a o even all = all.0
last_report pids (b ∷ acts) (x ∷ os) a o even all = last_report pids acts os a o (omega arith) all.1
last_report pids acts os a o even all = absurd (omega arith)

-- one more act adds its report to the recorded stream of its actor
module _ (acts : List Act) (a : Act) (os : List Outcome) (o : Outcome)
    (even : length os ≡ length acts) where
  record_one : (e : Event) → o.report ≡ Some e → (q : Pid)
      → with_event (actor a) e (record { pid = q; events = stream acts os q })
      ≡ record { pid = q; events = stream (acts ++ a ∷ []) (os ++ o ∷ []) q }
  record_one e is q =
      let x : Stream = record { pid = q; events = stream acts os q } in
      let y : Stream = record { pid = q; events = stream (acts ++ a ∷ []) (os ++ o ∷ []) q } in
      elim (pid_eq q (actor a)) as (λ b. pid_eq q (actor a) ≡ b
      → cond b (record x { events = x.events ++ e ∷ [] }) x ≡ y) [
        | true ↦ λ same.
            let who : actor a ≡ q = sym (pid_eq-true q (actor a) same) in
            let grows : stream acts os q ++ e ∷ [] ≡ stream (acts ++ a ∷ []) (os ++ o ∷ []) q =
            sym (subst (λ p. stream (acts ++ a ∷ []) (os ++ o ∷ []) p ≡ stream acts os p ++ e ∷ [])
            who
            (stream_own acts a os o even e is)) in
            ap (λ es. let z : Stream = record { pid = q; events = es } in z) grows
        | false ↦ λ apart. ap (λ es. let z : Stream = record { pid = q; events = es } in z)
            (sym (stream_other acts a os o even q (pid_eq-swap (actor a) q ∙ apart)))
      ] refl

  recorded_more : (pids : List Pid) (report : Option Event) → o.report ≡ report
      → with_report (reported_streams pids acts os) (actor a) report
      ≡ reported_streams pids (acts ++ a ∷ []) (os ++ o ∷ [])
  recorded_more [] None is = refl
  recorded_more [] (Some e) is = refl
  recorded_more (q ∷ pids) None is =
      ap (λ es. let x : Stream = record { pid = q; events = es } in
      x ∷ reported_streams pids acts os)
      (sym (stream_silent acts a os o even q is))
      ∙ ap (λ xs. let x : Stream =
      record { pid = q; events = stream (acts ++ a ∷ []) (os ++ o ∷ []) q } in x ∷ xs)
      (recorded_more pids None is)
  recorded_more (q ∷ pids) (Some e) is =
      ap (λ x. x ∷ added (reported_streams pids acts os) (actor a) e) (record_one e is q)
      ∙ ap (λ xs. let x : Stream =
      record { pid = q; events = stream (acts ++ a ∷ []) (os ++ o ∷ []) q } in x ∷ xs)
      (recorded_more pids (Some e) is)

replies_more : (keeps : Bool) (os : List Outcome) (o : Outcome)
    → kept_replies keeps os ++ (if keeps then o.reply ∷ [] else [])
    ≡ kept_replies keeps (os ++ o ∷ [])
replies_more false os o = refl
replies_more true [] o = refl
replies_more true (x ∷ os) o = ap (λ ys. x.reply ∷ ys) (replies_more true os o)

module _ (top : ℕ) (pids : List Pid) (acts : List Act) (n : ℕ) (d : Act) (keeps : Bool) (s : State)
    (streams : List Stream) (replies : List Reply) (within : n < length acts)
    (p : IsReplayedTo top pids (take n acts) keeps s streams replies) where
  more : take n acts ++ get_or acts n d ∷ [] ≡ take (n + 1) acts
  more = sym (take_more acts n d within)

  even : length p.outcomes ≡ length (take n acts)
  even = length-run top (zero_state pids) (take n acts) p.outcomes p.runs

  -- without a step there is no run
  pub no_run_at : step top s (get_or acts n d) ≡ None → run top pids (take (n + 1) acts) ≡ None
  no_run_at h =
      subst (λ xs. run top pids xs ≡ None) more
      (run-append top (zero_state pids) (take n acts) (get_or acts n d) p.outcomes p.runs
      ∙ ap (option_map (λ o. p.outcomes ++ o ∷ []))
      (ap (λ x. step top x (get_or acts n d)) (sym p.is_state) ∙ h))

  module _ (o : Outcome) (h : step top s (get_or acts n d) ≡ Some o) where
    whole : run top pids (take n acts ++ get_or acts n d ∷ []) ≡ Some (p.outcomes ++ o ∷ [])
    whole =
        run-append top (zero_state pids) (take n acts) (get_or acts n d) p.outcomes p.runs
        ∙ ap (option_map (λ x. p.outcomes ++ x ∷ []))
        (ap (λ x. step top x (get_or acts n d)) (sym p.is_state) ∙ h)

    -- the act's report is its actor's own
    pub own_at : (e : Event) → o.report ≡ Some e → is_own (actor (get_or acts n d)) e ≡ true
    own_at e is =
        (last_report pids (take n acts) p.outcomes (get_or acts n d) o even
        (run_named top pids (take n acts ++ get_or acts n d ∷ []) (p.outcomes ++ o ∷ []) whole) e
        is).own

    -- the act's actor is listed
    pub listed_at : lists streams (actor (get_or acts n d)) ≡ true
    listed_at =
        let t = step_parts top s (get_or acts n d) o h in
        let are : map (λ (r : Process). r.pid) s ≡ pids =
        ap (map (λ (r : Process). r.pid)) p.is_state
        ∙ state_pids top (zero_state pids) (take n acts) p.outcomes p.runs
        ∙ zero_pids pids in
        ap (λ xs. lists xs (actor (get_or acts n d))) p.are_streams
        ∙ lists-reported pids (take n acts) p.outcomes (actor (get_or acts n d))
        ∙ ap (λ ps. is_among ps (actor (get_or acts n d))) (sym are)
        ∙ process_among s (actor (get_or acts n d)) t.before t.is_before

    -- the record takes the act
    pub recorded_at : (me : Pid) (streams' : List Stream) (replies' : List Reply)
        → me ≡ actor (get_or acts n d)
        → streams' ≡ with_report streams me o.report
        → replies' ≡ replies ++ (if keeps then o.reply ∷ [] else [])
        → IsReplayedTo top pids (take (n + 1) acts) keeps o.after streams' replies'
    recorded_at me streams' replies' who recording replying =
        let a = get_or acts n d in
        subst (λ xs. IsReplayedTo top pids xs keeps o.after streams' replies') more (record {
          outcomes = p.outcomes ++ o ∷ [];
          runs = whole;
          is_state = state_from-append (zero_state pids) p.outcomes o;
          are_streams = recording
              ∙ ap (λ q. with_report streams q o.report) who
              ∙ ap (λ xs. with_report xs (actor a) o.report) p.are_streams
              ∙ recorded_more (take n acts) a p.outcomes o even pids o.report refl;
          are_replies = replying
              ∙ ap (λ rs. rs ++ (if keeps then o.reply ∷ [] else [])) p.are_replies
              ∙ replies_more keeps p.outcomes o;
        })

-- THE CLOSE

stream_among : (pids : List Pid) (acts : List Act) (os : List Outcome) (p : Pid)
    → AllZip (ReportsAmong pids) acts os
    → AllByRecursion (λ e. names_among pids e ≡ true) (stream acts os p)
stream_among pids [] os p all = tt
stream_among pids (a ∷ acts) [] p all = tt
stream_among pids (a ∷ acts) (o ∷ os) p all =
    elim o.report as (λ report. ForSome report (IsReportAmong pids (actor a))
    → AllByRecursion (λ e. names_among pids e ≡ true)
    ((if pid_eq (actor a) p then option_to_list report else []) ++ stream acts os p)) [
      | None ↦ λ one. elim (pid_eq (actor a) p) as (λ b.
          AllByRecursion (λ e. names_among pids e ≡ true)
          ((if b then [] else []) ++ stream acts os p))
          [ true ↦ stream_among pids acts os p all.1 | false ↦ stream_among pids acts os p all.1 ]
      | Some e ↦ λ one. elim (pid_eq (actor a) p) as (λ b.
          AllByRecursion (λ e. names_among pids e ≡ true)
          ((if b then e ∷ [] else []) ++ stream acts os p)) [
            | true ↦ ((one e refl).names, stream_among pids acts os p all.1)
            | false ↦ stream_among pids acts os p all.1
          ]
    ] all.0

all_false : (pids : List Pid) (acts : List Act) (os : List Outcome) (es : List Event)
    → AllByRecursion (λ e. names_among pids e ≡ true) es
    → AllByRecursion (λ e. not (names_listed (reported_streams pids acts os) e) ≡ false) es
all_false pids acts os [] all = tt
all_false pids acts os (e ∷ es) all =
    (ap not (names-reported pids acts os e ∙ all.0), all_false pids acts os es all.1)

unlisted_rest : (pids : List Pid) (acts : List Act) (os : List Outcome) (rest : List Pid)
    → AllZip (ReportsAmong pids) acts os
    → unlisted_among (reported_streams pids acts os) (reported_streams rest acts os) ≡ None
unlisted_rest pids acts os [] all = refl
unlisted_rest pids acts os (p ∷ rest) all =
    let test = λ (e : Event). not (names_listed (reported_streams pids acts os) e) in
    ap (λ (k : Option ℕ). let o : Option (Pid × ℕ) =
    elim k [
      | None ↦ unlisted_among (reported_streams pids acts os) (reported_streams rest acts os)
      | Some i ↦ Some (p, i)
    ] in o)
    (position-none test (stream acts os p)
    (all_false pids acts os (stream acts os p) (stream_among pids acts os p all)))
    ∙ unlisted_rest pids acts os rest all

-- the streams of a run name only its processes
pub run_listed : (top : ℕ) (pids : List Pid) (acts : List Act) (os : List Outcome)
    → run top pids acts ≡ Some os
    → unlisted (reported_streams pids acts os) ≡ None
run_listed top pids acts os h = unlisted_rest pids acts os pids (run_named top pids acts os h)

-- THE OPENED PROCESSES

-- pids that rise: each is above those before it
pub rising_at : (pids : List Pid) (k : ℕ) (p : Pid) → IsRising pids → slice_get pids k ≡ Some p
    → AllByRecursion (λ q. IsBelow q p) (take k pids)
rising_at [] zero p rising at = tt
rising_at [] (suc k) p rising at = tt
rising_at (q ∷ pids) zero p rising at = tt
rising_at (q ∷ pids) (suc k) p rising at =
    (all_at (IsBelow q) pids k p rising.0 at, rising_at pids k p rising.1 at)

pub opened_last : (pids : List Pid) (p : Pid) → AllByRecursion (λ q. IsBelow q p) pids
    → ComesLast (reported_streams pids [] []) p
opened_last [] p all = tt
opened_last (q ∷ pids) p all = (all.0, opened_last pids p all.1)

pub opened_more : (pids : List Pid) (k : ℕ) (d : Pid) → k < length pids
    → reported_streams (take k pids) [] [] ++ record { pid = get_or pids k d; events = [] } ∷ []
    ≡ reported_streams (take (k + 1) pids) [] []
opened_more pids k d within =
    sym (map_push (λ p. let x : Stream = record { pid = p; events = [] } in x) (take k pids)
    (get_or pids k d))
    ∙ ap (λ ps. reported_streams ps [] []) (sym (take_more pids k d within))

-- a rising pid comes after the pids that were opened before it
pub comes_last : (pids : List Pid) (k : ℕ) (d : Pid) (draft : List Stream) → IsRising pids
    → k < length pids
    → draft ≡ reported_streams (take k pids) [] [] → ComesLast draft (get_or pids k d)
comes_last pids k d draft rising within are =
    subst (λ xs. ComesLast xs (get_or pids k d)) (sym are)
    (opened_last (take k pids) (get_or pids k d)
    (rising_at pids k (get_or pids k d) rising (slice_get-get_or pids k d within)))

-- an act that is refused has no step, if memory didn't run out
pub no_step_but : {P Q : Type 0} → P ⊎ Q → (P → ⊥) → Q
no_step_but (inl p) other = absurd (other p)
no_step_but (inr q) other = q

-- in each event of recorded streams prev is less than this
pub recorded_rises : (top : ℕ) (pids : List Pid) (acts : List Act) (keeps : Bool) (s : State)
    (streams : List Stream)
    (replies : List Reply) → IsReplayedTo top pids acts keeps s streams replies
    → (told : List Stream)
    → told ≡ streams → AllRise told
recorded_rises top pids acts keeps s streams replies p told same =
    subst AllRise (sym (same ∙ p.are_streams))
    (All-map (λ (x : Stream). All Rises x.events)
    (λ q. record { pid = q; events = stream acts p.outcomes q }) pids
    (λ k d within. stream_rises top acts p.outcomes _ (run_sound top pids acts p.outcomes p.runs)))

-- recorded streams list the run's processes
pub recorded_pids : (top : ℕ) (pids : List Pid) (acts : List Act) (keeps : Bool) (s : State)
    (streams : List Stream)
    (replies : List Reply) → IsReplayedTo top pids acts keeps s streams replies
    → pids ≡ pids_of streams
recorded_pids top pids acts keeps s streams replies p =
    reported_pids pids acts p.outcomes ∙ ap pids_of (sym p.are_streams)
  where
    reported_pids : (ps : List Pid) (acts : List Act) (os : List Outcome)
        → ps ≡ pids_of (reported_streams ps acts os)
    reported_pids [] acts os = refl
    reported_pids (q ∷ ps) acts os = ap (λ qs. q ∷ qs) (reported_pids ps acts os)
