-- The laws of what the commands write, each the contract of a function of `laws`.
use Rattle.std.specs.Prelude.{◌≡◌, ◌⊎◌, ℕ, ◌≤◌, List, Option, Some}
use Rattle.st_core.specs.declared.types.Act.{Act}
use Rattle.st_core.specs.Run.{Stream, Shows}
use Rattle.st_core.specs.Verdict.{Stuck, Yes, IsVerdict}
use Rattle.st_plan.specs.Full.{IsFullyShown}
use Rattle.st_plan.specs.Plain.{IsPlain}
use Rattle.st_runtime.specs.declared.join.record.Record.{Record}
use Rattle.st_text.specs.declared.limits.Limits.{Limits}
use Rattle.st_text.specs.Text.{spelling}
use Rattle.st_commands.specs.Output.{Output, judged}
use Rattle.st_commands.specs.Checked.{top, Spells, IsJudged, IsChecked}
use Rattle.st_commands.specs.Replayed.{HasStuck}
use Rattle.st_commands.specs.Audited.{IsAudited}
use Rattle.st_commands.specs.Recorded.{HasRecord, IsRecorded, record_output}
use Rattle.st_commands.specs.Meaning.{MeansYes, MeansNo, MeansFits, MeansUnfit, MeansDriven}

-- status 0 of `check` is a yes, and status 1 a no, whatever the limits of the reader
abbrev pub YesMeans : Type 0
YesMeans =
    (limits : Limits) (bytes : List ℕ) (out : Output) → IsChecked limits bytes out
    → out.status ≡ 0 → MeansYes limits bytes out

abbrev pub NoMeans : Type 0
NoMeans =
    (limits : Limits) (bytes : List ℕ) (out : Output) → IsChecked limits bytes out
    → out.status ≡ 1 → MeansNo limits bytes out

-- if the bytes spell streams and acts that show them, `check` says yes
abbrev pub ShownIsYes : Type 0
ShownIsYes =
    (limits : Limits) (bytes : List ℕ) (streams : List Stream) (acts : List Act) (out : Output)
    → Spells limits bytes streams (Some acts)
    → Shows top streams acts → IsChecked limits bytes out → out.status ≡ 0

-- status 0 of `audit` is a certificate, and status 1 an event and a reason
abbrev pub FitsMeans : Type 0
FitsMeans =
    (limits : Limits) (bytes : List ℕ) (out : Output) → IsAudited limits bytes out
    → out.status ≡ 0 → MeansFits limits bytes out

abbrev pub UnfitMeans : Type 0
UnfitMeans =
    (limits : Limits) (bytes : List ℕ) (out : Output) → IsAudited limits bytes out
    → out.status ≡ 1 → MeansUnfit limits bytes out

-- `audit` writes a certificate for plain streams, and for the streams of a run without a reset
-- that reported everything
abbrev pub CertainTracesFit : Type 0
CertainTracesFit =
    (limits : Limits) (bytes : List ℕ) (streams : List Stream) (given : Option (List Act))
    (out : Output) → Spells limits bytes streams given
    → IsPlain top streams ⊎ IsFullyShown top streams
    → IsAudited limits bytes out → out.status ≡ 0

-- the text of streams and acts
abbrev pub certificate : List Stream → List Act → List ℕ
certificate streams acts = spelling (record { streams = streams; acts = Some acts })

-- if streams and acts have the verdict yes, and their text is one within the reader's limits,
-- `check` of the text says yes and the pairs, and nothing else
abbrev pub CertificateIsYes : Type 0
CertificateIsYes =
    (limits : Limits) (streams : List Stream) (acts : List Act) (pairs : List (ℕ × ℕ))
    → IsVerdict top streams acts (Yes pairs)
    → Spells limits (certificate streams acts) streams (Some acts)
    → (out : Output) → IsChecked limits (certificate streams acts) out → out ≡ judged (Yes pairs)

-- status 0 of `drive` is a record
abbrev pub DrivenMeans : Type 0
DrivenMeans =
    (limits : Limits) (bytes : List ℕ) (out : Output) → IsRecorded limits bytes out
    → out.status ≡ 0 → MeansDriven limits bytes out

-- if a record's text is one within a reader's limits, `check` of the text says yes; the limits may
-- differ from those that `drive` read within
abbrev pub RecordedIsYes : Type 0
RecordedIsYes =
    (limits others : Limits) (bytes : List ℕ) (r : Record) → HasRecord limits bytes r
    → Spells others (record_output r).text r.streams (Some r.acts)
    → (out : Output) → IsChecked others (record_output r).text out → out.status ≡ 0

-- any bytes have an output of the command, and at most one
abbrev pub HasOutput : (List ℕ → Output → Type 0) → Type 0
HasOutput IsOutput = (bytes : List ℕ) → (out : Output) × IsOutput bytes out

abbrev pub HasOneOutput : (List ℕ → Output → Type 0) → Type 0
HasOneOutput IsOutput =
    (bytes : List ℕ) (one other : Output) → IsOutput bytes one → IsOutput bytes other → one ≡ other

-- no act of a text is stuck if the reader takes no more acts than a clock has counts: no clock is
-- full before an act, and the pids of acts are listed
abbrev pub NeverStuck : Type 0
NeverStuck =
    (limits : Limits) → limits.acts ≤ top → (bytes : List ℕ) (n : ℕ)
    → ¬ IsJudged limits bytes (Stuck n)

abbrev pub NeverStuckInReplay : Type 0
NeverStuckInReplay =
    (limits : Limits) → limits.acts ≤ top → (bytes : List ℕ) (n : ℕ) → ¬ HasStuck limits bytes n
