-- Each run without a reset has a full completion: with a tracer on each node first, the loud run
-- reports all the run's events, and its told events are the run's streams. A full completion is
-- settled, and acts that report what a settled one tells show the streams.
use Rattle.std.proofs.Common.{◌≡◌, ℕ, ◌==◌, suc, Bool, true, false, cond, List, [], ◌∷◌, ◌++◌}
use Rattle.std.proofs.Common.{map, Option, Some, None, is_some, option_map, get_or, refl, sym, ◌∙◌}
use Rattle.std.proofs.Common.{ap, subst, ◌↔◌}
use Rattle.std.specs.Prelude.{All}
use Rattle.std.specs.List.{AllByRecursion, slice_get}
use Rattle.std.specs.Option.{option_map_or}
use Rattle.std.proofs.lemmas.Bool.{false≢true}
use Rattle.std.proofs.lemmas.List.Elements.{All-head, All-map, All-tail}
use Rattle.std.proofs.lemmas.Option.{same_Some, none-some}
use Rattle.st_core.specs.declared.types.Pid.{Pid}
use Rattle.st_core.specs.declared.types.Act.{Act}
use Rattle.st_core.specs.Pid.{pid_eq, node_eq, IsRising}
use Rattle.st_core.specs.State.{Process, State, process, zero_local, zero_state}
use Rattle.st_core.specs.Step.{Outcome, answers, changed, step}
use Rattle.st_core.specs.Run.{Shows, Stream, pids_of, run, run_from, stream}
use Rattle.st_core.specs.Streams.{IsStreams}
use Rattle.st_core.specs.Laws.{moves_token, NoReset, ReportsEverything}
use Rattle.st_core.specs.declared.types.Act.TheVariants as act
use Rattle.st_core.specs.declared.types.Reply.TheVariants as reply
use Rattle.st_core.proofs.ForCallers.{mapped, pid_same, process_after, process_pid, run_parts}
use Rattle.st_core.proofs.ForCallers.{step_parts, some_of, shown_are_streams}
use Rattle.st_plan.specs.Build.{state_after, tracers_after}
use Rattle.st_plan.specs.Marks.{all_streams, all_told, Marked, told_events, told_streams, Whole}
use Rattle.st_plan.specs.Full.{IsFull}
use Rattle.st_plan.specs.Plain.{IsSettled}
use Rattle.st_plan.proofs.ForCallers.{append_none, IsOpened, opens, tracers_none, run_append}
use Rattle.st_plan.proofs.ForCallers.{stream_append, stream_silent, run_full, completion_is_shown}
use Rattle.st_plan.proofs.ForCallers.{full_streams_plain}
use Rattle.lack_laws.specs.Wholes.{loud, whole_from, wholes_of}
use Rattle.lack_laws.specs.Completed.{IsCompleted, IsShownInOneTrace}
use Rattle.lack_laws.proofs.LoudRuns.{are_heard, AreHeard, IsLoud, stays_whole, whole_append}
use Rattle.lack_laws.proofs.LoudRuns.{whole_told}

-- AFTER THE TRACERS

abbrev zeroes : Bool → Pid → Process
zeroes b x = record { pid = x; local = record zero_local { traced = b }; queue = [] }

zero_at : (pids : List Pid) (x : Pid) (r : Process) → process (zero_state pids) x ≡ Some r
    → (r ≡ zeroes false x) × (k : ℕ) × (slice_get pids k ≡ Some x)
zero_at [] x r h = absurd (none-some r h)
zero_at (p ∷ pids) x r h =
    elim (pid_eq p x) as (λ b. pid_eq p x ≡ b → cond b (Some (zeroes false p))
    (process (zero_state pids) x) ≡ Some r
    → (r ≡ zeroes false x) × (k : ℕ) × (slice_get (p ∷ pids) k ≡ Some x)) [
      | true ↦ λ e h.
          let who = pid_same p x e in
          (sym (same_Some _ r h) ∙ ap (zeroes false) who, 0, ap (λ (q : Pid). Some q) who)
      | false ↦ λ e h. let rest = zero_at pids x r h in (rest.0, suc rest.1, rest.2)
    ] refl h

abbrev AreBlank : State → Type 0
AreBlank s = (x : Pid) (r : Process) → process s x ≡ Some r → r.local.token ≡ None

abbrev AreTracers : List Act → Type 0
AreTracers acts = AllByRecursion (λ a. (p : Pid) × (act.Tracer p true ≡ a)) acts

tracer_token : (p : Pid) (before r : Process) → before.local.token ≡ None → r.local.token ≡ None
    → (changed (act.Tracer p true) (answers before before.local (reply.Was before.local.traced))
    r).local.token ≡ None
tracer_token p before r first here =
    let own = λ (b : Bool). cond b (record r { local = before.local; queue = before.queue }) r in
    let out = λ (b c : Bool). cond c (let x : Process = record (own b) {
      local = record (own b).local { traced = true };
    } in x) (own b) in
    elim (pid_eq r.pid p) as (λ b. (out b (node_eq (own b).pid p)).local.token ≡ None) [
      | true ↦ elim (node_eq r.pid p) as (λ c. (out true c).local.token ≡ None)
          [ true ↦ first | false ↦ first ]
      | false ↦ elim (node_eq r.pid p) as (λ c. (out false c).local.token ≡ None)
          [ true ↦ here | false ↦ here ]
    ]

blank_step : (top : ℕ) (s : State) (p : Pid) (o : Outcome)
    → step top s (act.Tracer p true) ≡ Some o → AreBlank s → AreBlank o.after
blank_step top s p o h blank x r at =
    let a = act.Tracer p true in
    let t = step_parts top s a o h in
    let was = mapped (changed a t.done) (process s x) r (sym (process_after top s a o t x) ∙ at) in
    let done : answers t.before t.before.local (reply.Was t.before.local.traced) ≡ t.done =
    same_Some _ t.done t.is_done in
    ap (λ (y : Process). y.local.token) (sym was.2)
    ∙ ap (λ d. (changed a d was.0).local.token) (sym done)
    ∙ tracer_token p t.before was.0 (blank p t.before t.is_before) (blank x was.0 was.1)

blank_after : (top : ℕ) (acts : List Act) (s : State) (os : List Outcome)
    → run_from top s acts ≡ Some os → AreTracers acts → AreBlank s → AreBlank (state_after s os)
blank_after top [] s os h all blank =
    subst (λ zs. AreBlank (state_after s zs)) (same_Some [] os h) blank
blank_after top (a ∷ acts) s os h all blank =
    let x = run_parts top s a acts os h in
    let one = blank_step top s all.0.0 x.first (ap (step top s) all.0.1 ∙ x.is_first) blank in
    subst (λ zs. AreBlank (state_after s zs)) (sym x.is_whole)
    (blank_after top acts x.first.after x.others x.is_rest all.1 one)

same_zero : (x : Pid) (y : Process) → y.pid ≡ x → y.local.token ≡ None → y.local.clock ≡ 0
    → y.local.last ≡ 0 → y.queue ≡ [] → y.local.traced ≡ true → y ≡ zeroes true x
same_zero x y who blank clocked lasted queued on = λ k. record {
  pid = who k;
  local = record { token = blank k; clock = clocked k; last = lasted k; traced = on k };
  queue = queued k;
}

nothing_there : (o : Option Process) → is_some o ≡ false → o ≡ None
nothing_there None h = refl
nothing_there (Some r) h = absurd (false≢true (sym h))

zero_loud : (top : ℕ) (pids : List Pid) (acts : List Act)
    (o : IsOpened top (zero_state pids) acts pids) → AreTracers acts
    → IsLoud (zero_state pids) (state_after (zero_state pids) o.os)
zero_loud top pids acts o all x =
    let after = state_after (zero_state pids) o.os in
    let there = λ (r : Option Process) (is : process (zero_state pids) x ≡ r).
    o.there x ∙ ap (λ (q : Option Process). is_some q) is in
    elim (process (zero_state pids) x) as (λ found. process (zero_state pids) x ≡ found
    → process after x ≡ option_map loud found) [
      | None ↦ λ is. nothing_there (process after x) (there None is)
      | Some r ↦ λ is.
          let at = zero_at pids x r is in
          let now = some_of (process after x) (there (Some r) is) in
          let z = o.zero x now.0 now.1 in
          let blank = blank_after top acts (zero_state pids) o.os o.runs all
          (λ y w there. ap (λ (v : Process). v.local.token) (zero_at pids y w there).0) x now.0
          now.1 in
          now.1 ∙ ap (λ (y : Process). Some y)
          (same_zero x now.0 (process_pid after x now.0 now.1) blank z.clocked z.lasted z.queued
          (o.all at.1 x at.2 now.0 now.1) ∙ ap loud (sym at.0))
    ] refl

are_tracers : (seen : Option ℕ) (ps : List Pid) → AreTracers (tracers_after seen ps)
are_tracers seen [] = tt
are_tracers seen (p ∷ ps) =
    elim (option_map_or (λ n. n == p.node) seen false) as
    (λ b. AreTracers (cond b (tracers_after seen ps)
    (act.Tracer p true ∷ tracers_after (Some p.node) ps))) [
      | true ↦ are_tracers seen ps
      | false ↦ ((p, refl), are_tracers (Some p.node) ps)
    ]

tracers_stay : (acts : List Act) → AreTracers acts
    → AllByRecursion (λ a. (r : Process) → moves_token r a ≡ false) acts
tracers_stay [] all = tt
tracers_stay (a ∷ acts) all =
    (λ r. ap (moves_token r) (sym all.0.1), tracers_stay acts all.1)

-- THE COMPLETION

module _ (top : ℕ) (streams : List Stream) (acts : List Act) (shows : Shows top streams acts) where
  abbrev pids : List Pid
  pids = pids_of streams

  abbrev start : State
  start = zero_state pids

  abbrev wholes : List Whole
  wholes = wholes_of top streams acts shows.0

  abbrev marks : Pid → List Marked
  marks p = whole_from top start acts shows.0 p

  abbrev whole_by : Stream → Whole
  whole_by x = record { pid = x.pid; marked = marks x.pid }

  told_each : (some : List Stream) → All (λ (x : Stream). stream acts shows.0 x.pid ≡ x.events) some
      → told_streams (map whole_by some) ≡ some
  told_each [] shown = refl
  told_each (x ∷ some) shown =
      let whole = λ (y : Stream). stream acts shows.0 y.pid ≡ y.events in
      let one : told_events (marks x.pid) ≡ x.events =
      whole_told top start acts shows.0 x.pid shows.1 ∙ All-head whole x some shown in
      ap (λ es. let y : Stream = record { pid = x.pid; events = es } in
      y ∷ told_streams (map whole_by some)) one
      ∙ ap (λ ys. x ∷ ys) (told_each some (All-tail whole x some shown))

  pub told_are : told_streams wholes ≡ streams
  told_are = told_each streams shows.2

  same_pids : (some : List Stream) → pids_of (all_streams (map whole_by some)) ≡ pids_of some
  same_pids [] = refl
  same_pids (x ∷ some) = ap (λ ps. x.pid ∷ ps) (same_pids some)

  module _ (none : NoReset acts) where
    abbrev tracers : List Act
    tracers = tracers_after None pids

    begun : IsOpened top start tracers pids
    begun = (opens top streams all_told).0

    later : AreHeard top start (state_after start begun.os) acts shows.0
    later = are_heard top start (state_after start begun.os) acts shows.0 shows.1 none
        (zero_loud top pids tracers begun (are_tracers None pids))

    abbrev heard : List Act
    heard = tracers ++ later.heard

    abbrev outcomes : List Outcome
    outcomes = begun.os ++ later.outcomes

    heard_runs : run top pids heard ≡ Some outcomes
    heard_runs = run_append top start tracers later.heard begun.os later.outcomes begun.runs
        later.runs

    heard_tells : (p : Pid) → stream heard outcomes p ≡ map (λ m. m.event) (marks p)
    heard_tells p =
        stream_append top start tracers later.heard begun.os later.outcomes p begun.runs
        ∙ ap (λ es. es ++ stream later.heard later.outcomes p)
        (stream_silent tracers begun.os p begun.silent)
        ∙ later.tells p

    heard_shows : Shows top (all_streams wholes) heard
    heard_shows = (
      outcomes,
      ap (λ ps. run top ps heard) (same_pids streams) ∙ heard_runs,
      All-map (λ (x : Stream). stream heard outcomes x.pid ≡ x.events)
          (λ (w : Whole). let x : Stream = record {
            pid = w.pid;
            events =
                map (λ m. m.event) w.marked;
          } in x) wholes
          (All-map (λ (w : Whole). stream heard outcomes w.pid ≡ map (λ m. m.event) w.marked)
          whole_by streams
          (λ k d within. heard_tells (get_or streams k d).pid)),
    )

    heard_plain : NoReset heard
    heard_plain = append_none tracers later.heard (tracers_none None pids)
        later.one_trace

    heard_whole : ReportsEverything (zero_state (pids_of (all_streams wholes))) heard outcomes
    heard_whole = subst (λ ps. ReportsEverything (zero_state ps) heard outcomes)
        (sym (same_pids streams))
        (whole_append top start tracers later.heard begun.os later.outcomes begun.runs
        (stays_whole start tracers begun.os (tracers_stay tracers (are_tracers None pids)))
        later.whole)

    pub wholes_full : IsFull top (all_streams wholes)
    unfolding heard_shows
    wholes_full = run_full top (all_streams wholes) heard heard_shows heard_plain heard_whole

    pub wholes_are_streams : IsRising pids → IsStreams (all_streams wholes)
    wholes_are_streams rising = shown_are_streams top (all_streams wholes) heard
        (subst IsRising (sym (same_pids streams)) rising) heard_shows

pub run_completed : (top : ℕ) (streams : List Stream) (acts : List Act)
    (shows : Shows top streams acts) → NoReset acts
    → IsRising (pids_of streams) → (told_streams (wholes_of top streams acts shows.0) ≡ streams)
    × IsStreams (all_streams (wholes_of top streams acts shows.0))
    × IsFull top (all_streams (wholes_of top streams acts shows.0))
run_completed top streams acts shows none rising = (
  told_are top streams acts shows,
  wholes_are_streams top streams acts shows none rising,
  wholes_full top streams acts shows none,
)

module _ (top : ℕ) (streams : List Stream) where
  pub shown_full : IsRising (pids_of streams) → IsShownInOneTrace top streams
      → IsCompleted IsFull top streams
  shown_full rising shown =
      let done = run_completed top streams shown.acts shown.shows shown.one_trace rising in
      record {
        wholes = wholes_of top streams shown.acts shown.shows.0;
        told = done.0;
        sound =
            done.1;
        is = done.2;
      }

  pub full_settled : IsCompleted IsFull top streams → IsCompleted IsSettled top streams
  full_settled done = record {
    wholes = done.wholes;
    told = done.told;
    sound = done.sound;
    is = (full_streams_plain top _ done.sound.draft.rising done.is).settled;
  }

  pub settled_shown : IsCompleted IsSettled top streams → IsShownInOneTrace top streams
  settled_shown done =
      let shown = completion_is_shown top done.wholes done.sound done.is in
      record {
        acts = shown.0;
        shows = subst (λ ss. Shows top ss shown.0) done.told shown.2;
        one_trace = shown.3;
      }

  pub exactly : IsRising (pids_of streams)
      → (IsShownInOneTrace top streams ↔ IsCompleted IsFull top streams)
      × (IsShownInOneTrace top streams ↔ IsCompleted IsSettled top streams)
  exactly rising = (
    (shown_full rising, λ full. settled_shown (full_settled full)),
    (λ shown. full_settled (shown_full rising shown), settled_shown),
  )
