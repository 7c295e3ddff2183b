-- The output of the program: a text of whole lines, and an exit status (own profile).
-- The status is 0 for a yes or a run, 1 for a no, 2 for a faulty input, 3 for a faulty command
-- line, and 4 if memory runs out or a device fails.
use Rattle.std.specs.Prelude.{ℕ, List, Some, ◌++◌, codes, decimal}
use Rattle.std.specs.List.{flat_map}
use Rattle.st_core.specs.declared.types.Act.{Act}
use Rattle.st_core.specs.Run.{Stream}
use Rattle.st_core.specs.Verdict.{Verdict, Stuck, Differs, Left, Yes}
use Rattle.st_text.specs.Spelling as spelled
use Rattle.st_text.specs.Spelling.{ended_line}
use Rattle.st_text.specs.Text.{spelling}
use Rattle.st_text.specs.declared.fault.ReadFault.{ReadFault}
use Rattle.st_text.specs.declared.fault.ReadFault.TheVariants as faults
use Rattle.st_commands.specs.declared.words.Refusal.{Refusal}
use Rattle.st_commands.specs.declared.words.Refusal.TheVariants as refusals

pub record Output : Type 0 where
  pub text : List ℕ
  pub status : ℕ

-- ---- verdicts

-- the words of a pair: the number of the act of a reported receive, and that of its send's act
abbrev pub pair_words : ℕ × ℕ → List ℕ
pair_words p = codes "pair " ++ decimal p.0 ++ codes " " ++ decimal p.1

abbrev pub pair_line : ℕ × ℕ → List ℕ
pair_line p = ended_line (pair_words p)

abbrev pub verdict_text : Verdict → List ℕ
verdict_text (Yes ps) = ended_line (codes "yes") ++ flat_map pair_line ps
verdict_text (Stuck n) = ended_line (codes "no stuck " ++ decimal n)
verdict_text (Differs n) = ended_line (codes "no differs " ++ decimal n)
verdict_text (Left p) = ended_line (codes "no left " ++ spelled.pid p)

abbrev pub verdict_status : Verdict → ℕ
verdict_status (Yes ps) = 0
verdict_status (Stuck n) = 1
verdict_status (Differs n) = 1
verdict_status (Left p) = 1

abbrev pub judged : Verdict → Output
judged v = record { text = verdict_text v; status = verdict_status v }

-- ---- bundles

-- the output that writes streams and acts as a bundle
abbrev pub bundled : List Stream → List Act → Output
bundled streams acts = record {
  text = spelling (record { streams = streams; acts = Some acts });
  status = 0;
}

-- ---- faults

abbrev pub fault_words : ReadFault → List ℕ
fault_words faults.Memory = codes "fault memory"
fault_words faults.Device = codes "fault device"
fault_words faults.TooLarge = codes "fault too large"
fault_words (faults.Line n) = codes "fault line " ++ decimal n
fault_words (faults.Order n) = codes "fault order " ++ decimal n
fault_words (faults.Foreign n) = codes "fault foreign " ++ decimal n
fault_words (faults.Unknown n) = codes "fault unknown " ++ decimal n
fault_words (faults.TooMany n) = codes "fault too many " ++ decimal n
fault_words faults.Truncated = codes "fault truncated"

abbrev pub fault_status : ReadFault → ℕ
fault_status faults.Memory = 4
fault_status faults.Device = 4
fault_status faults.TooLarge = 2
fault_status (faults.Line n) = 2
fault_status (faults.Order n) = 2
fault_status (faults.Foreign n) = 2
fault_status (faults.Unknown n) = 2
fault_status (faults.TooMany n) = 2
fault_status faults.Truncated = 2

abbrev pub refused : ReadFault → Output
refused f = record { text = ended_line (fault_words f); status = fault_status f }

-- the output of a command that needs acts, for a bundle without acts
abbrev pub no_acts : Output
no_acts = record { text = ended_line (codes "fault no acts"); status = 2 }

-- the outputs if memory ran out and if the reader failed
abbrev pub no_memory : Output
no_memory = refused faults.Memory

abbrev pub no_device : Output
no_device = refused faults.Device

-- ---- the command line

abbrev pub usage_words : List ℕ
usage_words = codes "usage: seqaudit check|audit|replay|drive|chart --label N"

abbrev pub usage : Output
usage = record { text = ended_line usage_words; status = 3 }

-- the output for words that ask for no command
abbrev pub refusal_output : Refusal → Output
refusal_output refusals.Memory = no_memory
refusal_output refusals.Usage = usage
