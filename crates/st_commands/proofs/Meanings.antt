-- Status 0 belongs to a yes alone and status 1 to a no alone, so the status of an output tells its
-- verdict, which tells the rest.
use Rattle.std.proofs.Common.{◌≡◌, ◌≢◌, ℕ, ◌+◌, ◌≤◌, List, [], ◌∷◌, take, refl, ap, subst, ◌∙◌}
use Rattle.std.proofs.Common.{arith}
use Rattle.std.specs.Prelude.{Option, Some, None, IsSome, All}
use Rattle.std.proofs.lemmas.List.Elements.{All-nil, All-cons}
use Rattle.st_core.specs.declared.types.Pid.{Pid}
use Rattle.st_core.specs.declared.types.Act.{Act}
use Rattle.st_core.specs.State.{zero_state}
use Rattle.st_core.specs.Step.{Outcome}
use Rattle.st_core.specs.Run.{Stream, Shows, pids_of, run, stream}
use Rattle.st_core.specs.Pairs.{Follows, AllPaired, pairs}
use Rattle.st_core.specs.Verdict.{Verdict, Stuck, Differs, Left, Yes, IsVerdict}
use Rattle.st_core.proofs.ForCallers.{one_verdict, run_from-take}
use Rattle.st_check.specs.Answers.{reported_streams}
use Rattle.st_text.specs.declared.fault.ReadFault.{ReadFault}
use Rattle.st_text.specs.declared.fault.ReadFault.TheVariants as faults
use Rattle.st_text.specs.declared.limits.Limits.{Limits}
use Rattle.st_commands.specs.Output.{Output, judged, refused}
use Rattle.st_commands.specs.Checked.{top, IsJudged, Judged, Lacking, Faulty}
use Rattle.st_commands.specs.Replayed.{HasRun, IsReplayed, replayed}
use Rattle.st_commands.specs.Replayed as replays
use Rattle.st_commands.specs.Meaning.{MeansYes, MeansNo, MeansReplayed}
use Rattle.st_commands.specs.Laws.{YesMeans, NoMeans, ShownIsYes, NeverStuck, NeverStuckInReplay}
use Rattle.st_commands.proofs.Outputs.{one_check}
use Rattle.st_commands.proofs.OwedOutputs.{judgement, spelled_run}

-- ---- faults have neither status

pub fault_status_high : (f : ReadFault) → 2 ≤ (refused f).status
fault_status_high faults.Memory = omega arith
fault_status_high faults.Device = omega arith
fault_status_high faults.TooLarge = omega arith
fault_status_high (faults.Line n) = omega arith
fault_status_high (faults.Order n) = omega arith
fault_status_high (faults.Foreign n) = omega arith
fault_status_high (faults.Unknown n) = omega arith
fault_status_high (faults.TooMany n) = omega arith
fault_status_high faults.Truncated = omega arith

-- ---- a yes

yes_verdict : (limits : Limits) (bytes : List ℕ) (v : Verdict) → IsJudged limits bytes v
    → (judged v).status ≡ 0 → MeansYes limits bytes (judged v)
yes_verdict limits bytes (Stuck n) j e = absurd (omega arith)
yes_verdict limits bytes (Differs n) j e = absurd (omega arith)
yes_verdict limits bytes (Left p) j e = absurd (omega arith)
yes_verdict limits bytes (Yes ps) j e =
    let v = j.verdict in
    let acts = j.acts in
    let os = v.0 in
    record {
      streams = j.streams;
      acts = acts;
      outcomes = os;
      spelled = j.spelled;
      runs = v.1;
      reports = v.2;
      paired = subst (AllPaired os) v.3 (j.paired os v.1);
      follows = subst (Follows acts os) v.3 (j.follows os v.1);
      text = ap (λ x. (judged (Yes x)).text) v.3;
    }

pub yes_means : YesMeans
yes_means limits bytes out (Judged b v j) e = yes_verdict limits b v j e
yes_means limits bytes out (Lacking b n) e = absurd (omega arith)
yes_means limits bytes out (Faulty b f is) e =
    let high = fault_status_high f in absurd (omega arith)

-- ---- a no

-- acts that show the streams have the verdict yes
shown_yes : (streams : List Stream) (acts : List Act) (h : Shows top streams acts)
    → IsVerdict top streams acts (Yes (pairs acts h.0))
shown_yes streams acts h = (h.0, h.1, h.2, refl)

no_verdict : (limits : Limits) (bytes : List ℕ) (v : Verdict) → IsJudged limits bytes v
    → ((ps : List (ℕ × ℕ)) → v ≢ Yes ps) → MeansNo limits bytes (judged v)
no_verdict limits bytes v j never = record {
  streams = j.streams;
  acts = j.acts;
  verdict = v;
  spelled = j.spelled;
  refuted = λ shown. never (pairs j.acts shown.0)
      (one_verdict top j.streams j.acts v (Yes (pairs j.acts shown.0)) j.verdict
      (shown_yes j.streams j.acts shown));
  text = refl;
  place = j.verdict;
}

judged_no : (limits : Limits) (bytes : List ℕ) (v : Verdict) → IsJudged limits bytes v
    → (judged v).status ≡ 1 → MeansNo limits bytes (judged v)
judged_no limits bytes (Stuck n) j e = no_verdict limits bytes (Stuck n) j (λ ps same. cc)
judged_no limits bytes (Differs n) j e = no_verdict limits bytes (Differs n) j (λ ps same. cc)
judged_no limits bytes (Left p) j e = no_verdict limits bytes (Left p) j (λ ps same. cc)
judged_no limits bytes (Yes ps) j e = absurd (omega arith)

pub no_means : NoMeans
no_means limits bytes out (Judged b v j) e = judged_no limits b v j e
no_means limits bytes out (Lacking b n) e = absurd (omega arith)
no_means limits bytes out (Faulty b f is) e = let high = fault_status_high f in absurd (omega arith)

-- ---- acts that show the streams

pub shown_is_yes : ShownIsYes
shown_is_yes limits bytes streams acts out spelled shown is =
    let v = shown_yes streams acts shown in
    let yes = Yes (pairs acts shown.0) in
    ap (λ (o : Output). o.status) (one_check limits bytes out (judged yes) is
    (Judged bytes yes (judgement limits bytes streams acts yes spelled v)))

-- ---- no act is stuck

has_step : (streams : List Stream) (acts : List Act) (n : ℕ)
    → IsSome (run top (pids_of streams) acts) → run top (pids_of streams) (take n acts) ≢ None
has_step streams acts n some none = by (run top (pids_of streams) acts) refl some
  where
    by : (o : Option (List Outcome)) → run top (pids_of streams) acts ≡ o → IsSome o → ⊥
    by None e is = absurd (cc)
    by (Some os) e is =
        let before = run_from-take top n (zero_state (pids_of streams)) acts os e in absurd (cc)

pub never_stuck : NeverStuck
never_stuck limits few bytes n j =
    has_step j.streams j.acts (n + 1) (spelled_run limits few bytes j.streams j.acts j.spelled)
    j.verdict.2

pub never_stuck_in_replay : NeverStuckInReplay
never_stuck_in_replay limits few bytes n h =
    has_step h.streams h.acts (n + 1) (spelled_run limits few bytes h.streams h.acts h.spelled)
    h.sticks.none

-- ---- a run

-- acts report one stream for each pid, in the order of the pids
reported_pids : (ps : List Pid) (acts : List Act) (os : List Outcome)
    → pids_of (reported_streams ps acts os) ≡ ps
reported_pids [] acts os = refl
reported_pids (p ∷ ps) acts os = ap (λ (rest : List Pid). p ∷ rest) (reported_pids ps acts os)

all_reported : (ps : List Pid) (acts : List Act) (os : List Outcome)
    → All (λ (x : Stream). stream acts os x.pid ≡ x.events) (reported_streams ps acts os)
all_reported [] acts os = All-nil (λ (x : Stream). stream acts os x.pid ≡ x.events)
all_reported (p ∷ ps) acts os =
    All-cons (λ (x : Stream). stream acts os x.pid ≡ x.events)
    (record { pid = p; events = stream acts os p })
    (reported_streams ps acts os) refl (all_reported ps acts os)

run_means : (limits : Limits) (bytes : List ℕ) (pids : List Pid) (acts : List Act)
    (os : List Outcome)
    → HasRun limits bytes pids acts os → MeansReplayed limits bytes (replayed pids acts os)
run_means limits bytes pids acts os h =
    let listed = reported_pids pids acts os in
    record {
      listed = h.streams;
      streams = reported_streams pids acts os;
      acts = acts;
      outcomes = os;
      spelled = h.spelled;
      runs = ap (λ (ps : List Pid). run top ps acts) listed ∙ h.runs;
      pids = listed ∙ h.listed;
      reports = all_reported pids acts os;
      text = refl;
    }

pub replayed_means : (limits : Limits) (bytes : List ℕ) (out : Output) → IsReplayed limits bytes out
    → out.status ≡ 0 → MeansReplayed limits bytes out
replayed_means limits bytes out (replays.Ran b pids acts os h) e = run_means limits b pids acts os h
replayed_means limits bytes out (replays.Stuck b n h) e = absurd (omega (arith, e))
replayed_means limits bytes out (replays.Lacking b n) e = absurd (omega (arith, e))
replayed_means limits bytes out (replays.Faulty b f is) e =
    let high = fault_status_high f in absurd (omega arith)

-- no output of `replay` has status 1
pub never_refused : (limits : Limits) → limits.acts ≤ top → (bytes : List ℕ) (out : Output)
    → IsReplayed limits bytes out → out.status ≡ 1 → ⊥
never_refused limits few bytes out (replays.Ran b pids acts os h) e = absurd (omega (arith, e))
never_refused limits few bytes out (replays.Stuck b n h) e = never_stuck_in_replay limits few b n h
never_refused limits few bytes out (replays.Lacking b n) e = absurd (omega (arith, e))
never_refused limits few bytes out (replays.Faulty b f is) e =
    let high = fault_status_high f in absurd (omega arith)
