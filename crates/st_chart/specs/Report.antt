-- The report of a finding, as bytes (own profile): the bundle with a certificate, or the event
-- that doesn't fit and the reason.
use Rattle.std.specs.Prelude.{ℕ, List, [], ◌++◌, codes, decimal, Option, Some, None}
use Rattle.std.specs.List.{flat_map}
use Rattle.st_core.specs.declared.types.Pid.{Pid}
use Rattle.st_core.specs.declared.types.Event.{Event}
use Rattle.st_core.specs.Run.{Stream}
use Rattle.st_text.specs.Spelling as spelled
use Rattle.st_text.specs.Spelling.{ended_line}
use Rattle.st_text.specs.Text.{spelling, act_lines, ended}
use Rattle.st_pair.specs.Places.{event_at}
use Rattle.st_check.specs.declared.verdict.Verdict.{Verdict}
use Rattle.st_check.specs.declared.verdict.Verdict.TheVariants as verdict
use Rattle.st_audit.specs.declared.finding.Reason.{Reason}
use Rattle.st_audit.specs.declared.finding.Reason.TheVariants as reason
use Rattle.st_audit.specs.declared.finding.Finding.{Finding}
use Rattle.st_audit.specs.declared.finding.Finding.TheVariants as finding
use Rattle.st_chart.specs.Words.{place_words}

-- the verdict on the tried acts; a yes is spelled too, but is never a reason
abbrev pub verdict_words : Verdict → List ℕ
verdict_words (verdict.Stuck n) = codes "stuck " ++ decimal n
verdict_words (verdict.Differs n) = codes "differs " ++ decimal n
verdict_words (verdict.Left p) = codes "left " ++ spelled.pid p
verdict_words (verdict.Yes pairs) = codes "yes"

-- the reason why an event of p doesn't fit, with the other place that the reason names
abbrev pub reason_words : Pid → Reason → List ℕ
reason_words p reason.PrevNotBefore = codes "prevnotbefore"
reason_words p (reason.NotRising j) = codes "notrising " ++ place_words p j
reason_words p (reason.Repeated q j) = codes "repeated " ++ place_words q j
reason_words p (reason.Mismatch q j) = codes "mismatch " ++ place_words q j
reason_words p reason.Uncaused = codes "uncaused"
reason_words p reason.TooWide = codes "toowide"
reason_words p (reason.NotReplayed acts v) = codes "notreplayed " ++ verdict_words v

abbrev pub unfit_line : Pid → ℕ → Reason → List ℕ
unfit_line p i r = ended_line (codes "unfit " ++ place_words p i ++ codes " " ++ reason_words p r)

-- an event; nothing if there is none, but a finding names only places of events
abbrev pub event_words : Option Event → List ℕ
event_words None = []
event_words (Some e) = spelled.event e

-- a word, a place, and the event there
abbrev pub place_line : List ℕ → Pid → ℕ → Option Event → List ℕ
place_line word p i e = (word ++ place_words p i ++ codes " ") ++ ended_line (event_words e)

abbrev pub event_line : List Stream → Pid → ℕ → List ℕ
event_line streams p i = place_line (codes "event ") p i (event_at streams p i)

-- what the reason rests on: the event at the other place, or the tried acts, spelled as in a
-- bundle
abbrev pub evidence : List Stream → Pid → Reason → List ℕ
evidence streams p (reason.NotRising j) = event_line streams p j
evidence streams p (reason.Repeated q j) = event_line streams q j
evidence streams p (reason.Mismatch q j) = event_line streams q j
evidence streams p (reason.NotReplayed acts v) = flat_map ended (act_lines (Some acts))
evidence streams p r = []

-- place and reason, the event there, and what the reason rests on
abbrev pub unfit_text : List Stream → Pid → ℕ → Reason → List ℕ
unfit_text streams p i r = unfit_line p i r ++ event_line streams p i ++ evidence streams p r

-- the bundle with its acts if the streams fit, else why they don't
abbrev pub report_text : List Stream → Finding → List ℕ
report_text streams (finding.Fits acts pairs) =
    spelling (record { streams = streams; acts = Some acts })
report_text streams (finding.Unfit p i r) = unfit_text streams p i r
