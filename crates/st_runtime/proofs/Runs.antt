-- Merged entries are a run.
use Rattle.std.proofs.Common.{◌≡◌, ℕ, Bool, true, false, cond, List, [], ◌∷◌, ◌++◌, map, Option}
use Rattle.std.proofs.Common.{Some, None, option_map, IsSome, ◌||◌, if◌then◌else◌, refl, sym, ◌∙◌}
use Rattle.std.proofs.Common.{ap, subst, inl, inr, ⊎_elim}
use Rattle.std.specs.Prelude.{filter, All, Contains, option_to_list}
use Rattle.std.proofs.lemmas.Option.{same_Some}
use Rattle.st_core.specs.declared.types.Pid.{Pid}
use Rattle.st_core.specs.declared.types.Act.{Act}
use Rattle.st_core.specs.Pid.{pid_eq}
use Rattle.st_core.specs.State.{Process, State, process, zero_state}
use Rattle.st_core.specs.Step.{Acted, Outcome, actor, receiver, touches, changed, outcome_of}
use Rattle.st_core.specs.Run.{Stream, run, run_from, stream, pids_of}
use Rattle.st_core.specs.Streams.{is_among}
use Rattle.st_core.proofs.ForCallers.{pid_eq-true, some_of, step_done, run_from-more, changed_pid}
use Rattle.st_core.proofs.ForCallers.{changed_untouched, process_pid, process-map, mapped}
use Rattle.st_log.specs.declared.entry.Entry.{Entry}
use Rattle.st_runtime.specs.Logs.{IsPart, LeadTo, zero_process}
use Rattle.st_runtime.specs.Pcb.{Control, IsFromLog}
use Rattle.st_runtime.specs.Pieces.{pids_in, HasIfTouched, IsWholeEntry, AreWhole, calls_of}
use Rattle.st_runtime.specs.Joined.{reports_of, streams_of, IsMerged, IsOneRun}
use Rattle.st_runtime.proofs.PartLemmas.{touches_actor, part_pid}
use Rattle.st_runtime.proofs.Legal.{own_of_part, IsDone, part_changed, untouched_other}
use Rattle.st_runtime.proofs.Members.{In, In-Contains, Contains-In, All-In, In-All, In-filter}
use Rattle.st_runtime.proofs.Members.{In-to_filter, IsOrdered-from_pairs, IsOrdered-filter}
use Rattle.st_runtime.proofs.Members.{IsOrdered-from_rises, same_list}

abbrev pub touching : Pid → Entry → Bool
touching p e = touches e.act p

-- an entry that touches a process is first in what is left of its log
leads_first : (top : ℕ) (r : Process) (e : Entry) (xs : List Entry) (f : Process) (b : Bool)
    → b ≡ true
    → LeadTo top r (cond b (e ∷ xs) xs) f → (m : Process) × IsPart top r e m × LeadTo top m xs f
leads_first top r e xs f true is l = l
leads_first top r e xs f false is l = cc

-- each process is led on by what is left of its log
abbrev AreLed : ℕ → State → List Entry → Type 0
AreLed top s es = (p : Pid) (r : Process) → process s p ≡ Some r
    → (f : Process) × LeadTo top r (filter (touching p) es) f

-- the actor and the receiver are there
abbrev AreThere : State → List Entry → Type 0
AreThere s es = (e : Entry) → In e es → IsSome (process s (actor e.act))
    × IsSome (process s (receiver e.act))

-- a run with what its entries tell
record Ran (top : ℕ) (s : State) (es : List Entry) : Type 0 where
  outcomes : List Outcome
  runs : run_from top s (map (λ (e : Entry). e.act) es) ≡ Some outcomes
  replies : map (λ (o : Outcome). o.reply) outcomes ≡ map (λ (e : Entry). e.reply) es
  reports : map (λ (o : Outcome). o.report) outcomes ≡ map (λ (e : Entry). e.report) es

some_map : {A B : Type 0} (f : A → B) (o : Option A) → IsSome o → IsSome (option_map f o)
some_map f None h = absurd (cc)
some_map f (Some x) h = refl

-- what is left of a process's log after an entry, by whether the entry touches it
led_on : (top : ℕ) (e : Entry) (es : List Entry) (p : Pid) (r : Process) (before : Process)
    (done : Acted) (f : Process)
    → IsDone top e before done → (r.pid ≡ actor e.act → r ≡ before) → r.pid ≡ p
    → LeadTo top r (filter (touching p) (e ∷ es)) f
    → LeadTo top (changed e.act done r) (filter (touching p) es) f
led_on top e es p r before done f by one is led =
    elim (touches e.act p) as (λ b. touches e.act p ≡ b → LeadTo top r
    (cond b (e ∷ filter (touching p) es) (filter (touching p) es)) f
    → LeadTo top (changed e.act done r) (filter (touching p) es) f) [
      | true ↦ λ t l. subst (λ x. LeadTo top x (filter (touching p) es) f)
          (sym (part_changed top r e l.0 before done by one l.1)) l.2
      | false ↦ λ t l. subst (λ x. LeadTo top x (filter (touching p) es) f)
          (sym (changed_untouched e.act done r (ap (touches e.act) is ∙ t))) l
    ] refl led

-- what is left after the first entry is there, and leads on
after_first : (top : ℕ) (e : Entry) (es : List Entry) (s : State) (r : Process) (done : Acted)
    → IsDone top e r done → process s (actor e.act) ≡ Some r
    → AreThere s (e ∷ es) → AreLed top s (e ∷ es) → AreThere (map (changed e.act done) s) es
    × AreLed top (map (changed e.act done) s) es
after_first top e es s r done by here there led =
    let f : Process → Process = changed e.act done in
    let found = process-map f (changed_pid e.act done) s in (
      λ d i. let k = there d (inr i) in (
        subst IsSome (sym (found (actor d.act))) (some_map f (process s (actor d.act)) k.0),
        subst IsSome (sym (found (receiver d.act))) (some_map f (process s (receiver d.act)) k.1),
      ),
      λ p x h.
          let was = mapped f (process s p) x (sym (found p) ∙ h) in
          let old = was.0 in
          let is_old : process s p ≡ Some old = was.1 in
          let pid : old.pid ≡ p = process_pid s p old is_old in
          let l = led p old is_old in (
            l.0,
            subst (λ y. LeadTo top y (filter (touching p) es) l.0) was.2
                (led_on top e es p old r done l.0 by (λ same. same_Some old r (sym is_old
                ∙ ap (process s) (sym pid ∙ same) ∙ here)) pid l.1),
          ),
    )

-- entries by which each process is led are a run
ran : (top : ℕ) (es : List Entry) (s : State) → AreThere s es → AreLed top s es → Ran top s es
ran top [] s there led = record { outcomes = []; runs = refl; replies = refl; reports = refl }
ran top (e ∷ es) s there led =
    let known = there e (inl refl) in
    let here = some_of (process s (actor e.act)) known.0 in
    let r = here.0 in
    let other = some_of (process s (receiver e.act)) known.1 in
    let mine : r.pid ≡ actor e.act = process_pid s (actor e.act) r here.1 in
    let first = led (actor e.act) r here.1 in
    let next = leads_first top r e (filter (touching (actor e.act)) es) first.0
    (touches e.act (actor e.act))
    (touches_actor e.act) first.1 in
    let own = own_of_part top r e next.0 mine next.1 in
    let done = own.done in
    let by : IsDone top e r done = record { mine = mine; acts = own.acts; carried = own.carried } in
    let o = outcome_of s e.act done in
    let left = after_first top e es s r done by here.1 there led in
    let rest : Ran top o.after es = ran top es o.after left.0 left.1 in
    record {
      outcomes = o ∷ rest.outcomes;
      runs = run_from-more top s e.act (map (λ (d : Entry). d.act) es) o rest.outcomes
          (step_done top s e.act r other.0 done here.1 other.1 own.acts) rest.runs;
      replies = λ i. own.reply i ∷ rest.replies i;
      reports = λ i. own.report i ∷ rest.reports i;
    }

-- THE MERGED ENTRIES OF ONE PROCESS ARE ITS LOG

led_touches : (top : ℕ) (r f : Process) (es : List Entry) (e : Entry) → LeadTo top r es f → In e es
    → touches e.act r.pid ≡ true
led_touches top r f [] e l i = absurd i
led_touches top r f (d ∷ ds) e l i =
    ⊎_elim (λ same. ap (λ (x : Entry). touches x.act r.pid) same ∙ l.1.touched)
    (λ later. ap (touches e.act) (sym (part_pid top r d l.0 l.1)) ∙ led_touches top l.0 f ds e l.2
    later) i

-- an entry that the merge has is whole
pub merged_whole : (xs : List Control) (es : List Entry) (e : Entry) → IsMerged xs es → AreWhole xs
    → In e es
    → IsWholeEntry xs e
merged_whole xs es e merged whole i =
    let from = merged.logged e (In-Contains e es i) in
    All-In (IsWholeEntry xs) from.0.log e
    (All-In (λ (x : Control). All (IsWholeEntry xs) x.log) xs from.0 whole
    (Contains-In from.0 xs from.1)) (Contains-In e from.0.log from.2)

pub restricted : (top ranks : ℕ) (xs : List Control) (es : List Entry) (x : Control)
    → IsMerged xs es → AreWhole xs
    → In x xs → IsFromLog top ranks x.process x.log → filter (touching x.process.pid) es ≡ x.log
restricted top ranks xs es x merged whole here kept =
    let p = x.process.pid in
    same_list (filter (touching p) es) x.log
    (IsOrdered-filter (touching p) es (IsOrdered-from_pairs es merged.ordered))
    (IsOrdered-from_rises 0 x.log kept.rises)
    (λ e i. let r = In-filter (touching p) e es i in Contains-In e x.log
    (All-In (HasIfTouched e) xs x (merged_whole xs es e merged whole r.0).everywhere here r.1))
    (λ e i. In-to_filter (touching p) e es
    (Contains-In e es (All-In (Contains es) x.log e
    (All-In (λ (y : Control). All (Contains es) y.log) xs x merged.all here) i))
    (led_touches top (zero_process p) x.process x.log e kept.local i))

-- THE ZERO STATE

zero_there : (xs : List Control) (p : Pid) → is_among (pids_in xs) p ≡ true
    → IsSome (process (zero_state (pids_in xs)) p)
zero_there [] p h = absurd (cc)
zero_there (x ∷ xs) p h =
    elim (pid_eq x.process.pid p) as (λ b. (b || is_among (pids_in xs) p) ≡ true
    → IsSome (cond b (Some (zero_process x.process.pid)) (process (zero_state (pids_in xs)) p))) [
      | true ↦ λ h. refl
      | false ↦ λ h. zero_there xs p h
    ] h

-- whose record of the zero state it is
record IsZeroOf (xs : List Control) (p : Pid) (r : Process) : Type 0 where
  control : Control
  among : In control xs
  pid : control.process.pid ≡ p
  zero : zero_process p ≡ r

zero_found : (xs : List Control) (p : Pid) (r : Process)
    → process (zero_state (pids_in xs)) p ≡ Some r
    → IsZeroOf xs p r
zero_found [] p r h = absurd (cc)
zero_found (x ∷ xs) p r h =
    elim (pid_eq x.process.pid p) as (λ b. pid_eq x.process.pid p ≡ b
    → cond b (Some (zero_process x.process.pid)) (process (zero_state (pids_in xs)) p) ≡ Some r
    → IsZeroOf (x ∷ xs) p r) [
      | true ↦ λ is h.
          let same : x.process.pid ≡ p = pid_eq-true x.process.pid p is in
          record {
            control = x;
            among = inl refl;
            pid = same;
            zero =
                ap zero_process (sym same) ∙ same_Some _ r h;
          }
      | false ↦ λ is h. let found = zero_found xs p r h in record {
        control = found.control;
        among =
            inr found.among;
        pid = found.pid;
        zero = found.zero;
      }
    ] refl h

-- WHAT THE RUN SHOWS

-- the reports of one process among all entries, and among those that touch it
reports_touching : (p : Pid) (es : List Entry)
    → reports_of p es ≡ reports_of p (filter (touching p) es)
reports_touching p [] = refl
reports_touching p (e ∷ es) =
    elim (touches e.act p) as (λ b. touches e.act p ≡ b → reports_of p (e ∷ es) ≡ reports_of p
    (cond b (e ∷ filter (touching p) es) (filter (touching p) es))) [
      | true ↦ λ t. ap (λ rest. (if pid_eq (actor e.act) p then option_to_list e.report else [])
          ++ rest)
          (reports_touching p es)
      | false ↦ λ t. rw (untouched_other e.act p t) (reports_touching p es)
    ] refl

calls_touching : (p : Pid) (es : List Entry) → calls_of p es ≡ calls_of p (filter (touching p) es)
calls_touching p [] = refl
calls_touching p (e ∷ es) =
    elim (touches e.act p) as (λ b. touches e.act p ≡ b → calls_of p (e ∷ es) ≡ calls_of p
    (cond b (e ∷ filter (touching p) es) (filter (touching p) es))) [
      | true ↦ λ t. ap (λ rest. (if pid_eq (actor e.act) p then (e.act, e.reply) ∷ [] else [])
          ++ rest)
          (calls_touching p es)
      | false ↦ λ t. rw (untouched_other e.act p t) (calls_touching p es)
    ] refl

abbrev head_of : {A : Type 0} (d : A) → List A → A
head_of d [] = d
head_of d (x ∷ xs) = x

abbrev tail_of : {A : Type 0} → List A → List A
tail_of [] = []
tail_of (x ∷ xs) = xs

-- a run's stream, by the reports of its entries
stream_reports : (p : Pid) (es : List Entry) (os : List Outcome)
    → map (λ (o : Outcome). o.report) os ≡ map (λ (e : Entry). e.report) es
    → stream (map (λ (e : Entry). e.act) es) os p ≡ reports_of p es
stream_reports p [] os h = refl
stream_reports p (e ∷ es) [] h = absurd (cc)
stream_reports p (e ∷ es) (o ∷ os) h =
    let first : o.report ≡ e.report = ap (head_of e.report) h in
    let rest = stream_reports p es os (ap tail_of h) in
    λ i. (if pid_eq (actor e.act) p then option_to_list (first i) else []) ++ rest i

pub pids_streams : (xs : List Control) → pids_of (streams_of xs) ≡ pids_in xs
pids_streams [] = refl
pids_streams (x ∷ xs) = ap (λ ps. x.process.pid ∷ ps) (pids_streams xs)

all_streams : (acts : List Act) (os : List Outcome) (xs : List Control)
    → ((x : Control) → In x xs → stream acts os x.process.pid ≡ reports_of x.process.pid x.log)
    → All (λ (x : Stream). stream acts os x.pid ≡ x.events) (streams_of xs)
all_streams acts os xs each =
    In-All (λ (x : Stream). stream acts os x.pid ≡ x.events) (streams_of xs)
    (λ y i. by xs each y i)
  where
    by : (xs : List Control)
        → ((x : Control) → In x xs → stream acts os x.process.pid ≡ reports_of x.process.pid x.log)
        → (y : Stream)
        → In y (streams_of xs) → stream acts os y.pid ≡ y.events
    by [] each y i = absurd i
    by (x ∷ xs) each y i =
        ⊎_elim (λ same. subst (λ (z : Stream). stream acts os z.pid ≡ z.events) (sym same)
        (each x (inl refl)))
        (λ later. by xs (λ z j. each z (inr j)) y later) i

-- ONE RUN
pub one_run : (top ranks : ℕ) (xs : List Control) (es : List Entry)
    → All (λ (x : Control). IsFromLog top ranks x.process x.log) xs → AreWhole xs → IsMerged xs es
    → IsOneRun top xs es
one_run top ranks xs es kept whole merged =
    let acts : List Act = map (λ (e : Entry). e.act) es in
    let log : (x : Control) → In x xs → filter (touching x.process.pid) es ≡ x.log =
    λ x i. restricted top ranks xs es x merged whole i (All-In
    (λ (y : Control). IsFromLog top ranks y.process y.log) xs x kept i) in
    let all : Ran top (zero_state (pids_in xs)) es = ran top es (zero_state (pids_in xs))
    (λ e i. let w = merged_whole xs es e merged whole i in (
      zero_there xs (actor e.act) w.actor,
      zero_there xs (receiver e.act) w.receiver,
    ))
    (λ p r h.
    let found = zero_found xs p r h in
    let x = found.control in
    let k = All-In (λ (y : Control). IsFromLog top ranks y.process y.log) xs x kept found.among in
    let led : LeadTo top (zero_process x.process.pid) (filter (touching x.process.pid) es)
    x.process =
    rw (log x found.among) k.local in (
      x.process,
      subst (λ y. LeadTo top y (filter (touching p) es) x.process) found.zero
          (subst (λ q. LeadTo top (zero_process q) (filter (touching q) es) x.process) found.pid
          led),
    )) in
    record {
      outcomes = all.outcomes;
      runs = all.runs;
      replies = all.replies;
      reports = all.reports;
      shows = (
        all.outcomes,
        ap (λ ps. run top ps acts) (pids_streams xs) ∙ all.runs,
        all_streams acts all.outcomes xs
            (λ x i. stream_reports x.process.pid es all.outcomes all.reports
            ∙ reports_touching x.process.pid es ∙ ap (reports_of x.process.pid) (log x i)),
      );
      calls = In-All (λ (x : Control). calls_of x.process.pid es ≡ calls_of x.process.pid x.log) xs
          (λ x i. calls_touching x.process.pid es ∙ ap (calls_of x.process.pid) (log x i));
    }
