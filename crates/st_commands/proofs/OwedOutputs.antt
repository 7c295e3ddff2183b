-- Bytes have an output of each command: they have a fault or are a text, and acts have a verdict
-- and a run.
use Rattle.std.proofs.Common.{◌≡◌, ℕ, ◌≤◌, List, Option, Some, None, refl, arith}
use Rattle.std.specs.Prelude.{IsSome}
use Rattle.st_core.specs.declared.types.Act.{Act}
use Rattle.st_core.specs.Run.{Stream, pids_of, run}
use Rattle.st_core.specs.Step.{Outcome}
use Rattle.st_core.specs.Verdict.{Verdict, IsVerdict}
use Rattle.st_check.proofs.ForCallers.{few_acts_run, verdict_follows, verdict_pairs}
use Rattle.st_text.specs.declared.fault.ReadFault.{ReadFault}
use Rattle.st_text.specs.declared.limits.Limits.{Limits}
use Rattle.st_text.specs.Fault.{fault_within}
use Rattle.st_text.proofs.ForCallers.{readable}
use Rattle.st_commands.specs.Output.{Output, judged, refused, no_acts}
use Rattle.st_commands.specs.Checked.{top, Spells, IsJudged, IsChecked}
use Rattle.st_commands.specs.Checked as checked
use Rattle.st_commands.specs.Replayed.{IsReplayed, replayed}
use Rattle.st_commands.specs.Replayed as replays
use Rattle.st_commands.specs.Laws.{HasOutput}

-- the verdict on streams and acts that bytes spell is one on the bytes
pub judgement : (limits : Limits) (bytes : List ℕ) (streams : List Stream) (acts : List Act)
    (v : Verdict) → Spells limits bytes streams (Some acts) → IsVerdict top streams acts v
    → IsJudged limits bytes v
judgement limits bytes streams acts v spelled is = record {
  streams = streams;
  acts = acts;
  spelled = spelled;
  verdict = is;
  follows = verdict_follows top streams acts v is;
  paired = verdict_pairs top streams acts v is;
}

-- acts that a text spells have a run
pub spelled_run : (limits : Limits) → limits.acts ≤ top
    → (bytes : List ℕ) (streams : List Stream) (acts : List Act)
    → Spells limits bytes streams (Some acts) → IsSome (run top (pids_of streams) acts)
spelled_run limits few bytes streams acts s =
    few_acts_run top (pids_of streams) acts (let within = s.within.acts in omega
    (arith, few)) s.text.bundle.listed

module _ (limits : Limits) (IsOutput : List ℕ → Output → Type 0) (bytes : List ℕ)
    (faulty : (f : ReadFault) → fault_within limits bytes ≡ Some f → IsOutput bytes (refused f))
    (lacking : (streams : List Stream) → Spells limits bytes streams None → IsOutput bytes no_acts)
    (spelled : (streams : List Stream) (acts : List Act) → Spells limits bytes streams (Some acts)
    → (out : Output) × IsOutput bytes out) where
  of_acts : (streams : List Stream) (acts : Option (List Act)) → Spells limits bytes streams acts
      → (out : Output) × IsOutput bytes out
  of_acts streams None s = (no_acts, lacking streams s)
  of_acts streams (Some acts) s = spelled streams acts s

  of_fault : (o : Option ReadFault) → fault_within limits bytes ≡ o
      → (out : Output) × IsOutput bytes out
  of_fault (Some f) is = (refused f, faulty f is)
  of_fault None none =
      let read = readable limits bytes none in
      of_acts read.0.streams read.0.acts (record { text = read.1.text; within = read.1.within })

  has_output : (out : Output) × IsOutput bytes out
  has_output = of_fault (fault_within limits bytes) refl

-- any bytes have an output of `check` if any streams and acts have a verdict, which is a law of
-- the machine
pub a_check : ((top : ℕ) (streams : List Stream) (acts : List Act)
    → (v : Verdict) × IsVerdict top streams acts v)
    → (limits : Limits) → HasOutput (IsChecked limits)
a_check a_verdict limits bytes =
    has_output limits (IsChecked limits) bytes (λ f is. checked.Faulty bytes f is)
    (λ streams s. checked.Lacking bytes (record { streams = streams; spelled = s }))
    (λ streams acts s. let v = a_verdict top streams acts in
    (judged v.0, checked.Judged bytes v.0 (judgement limits bytes streams acts v.0 s v.1)))

a_run : (limits : Limits) (bytes : List ℕ) (streams : List Stream) (acts : List Act)
    → Spells limits bytes streams (Some acts)
    → (o : Option (List Outcome)) → run top (pids_of streams) acts ≡ o → IsSome o
    → (out : Output) × IsReplayed limits bytes out
a_run limits bytes streams acts s None none some = absurd (cc)
a_run limits bytes streams acts s (Some os) is some = (
  replayed (pids_of streams) acts os,
  replays.Ran bytes (pids_of streams) acts os
      (record { streams = streams; spelled = s; listed = refl; runs = is }),
)

pub a_replay : (limits : Limits) → limits.acts ≤ top → HasOutput (IsReplayed limits)
a_replay limits few bytes =
    has_output limits (IsReplayed limits) bytes (λ f is. replays.Faulty bytes f is)
    (λ streams s. replays.Lacking bytes (record { streams = streams; spelled = s }))
    (λ streams acts s. a_run limits bytes streams acts s (run top (pids_of streams) acts) refl
    (spelled_run limits few bytes streams acts s))
