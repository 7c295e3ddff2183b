-- The outputs for a bundle that was read, for the contracts of the functions that a command is
-- made of. `Command` has the whole duty of a command.
use Rattle.std.specs.Prelude.{◌≡◌, ℕ, true, false, List, Some, None}
use Rattle.std.specs.List.{list_any}
use Rattle.std.specs.Option.{ForSome}
use Rattle.st_core.specs.declared.types.Label.{Label}
use Rattle.st_core.specs.declared.types.Act.{Act}
use Rattle.st_core.specs.Step.{Outcome}
use Rattle.st_core.specs.Run.{Stream, pids_of, run}
use Rattle.st_core.specs.Verdict.{Verdict, IsVerdict}
use Rattle.st_check.specs.Answers.{FollowsAll, PairsAll, SticksAt}
use Rattle.st_check.specs.declared.verdict.Reports.{Reports}
use Rattle.st_check.specs.declared.verdict.Reports.TheVariants as reports
use Rattle.st_audit.specs.declared.finding.Finding.{Finding}
use Rattle.st_audit.specs.Construction.{IsAudit}
use Rattle.st_audit.specs.Findings.{IsFinding, HandsOn, fault_of, unfit_by}
use Rattle.st_pair.specs.declared.answer.PairFault.{PairFault}
use Rattle.st_pair.specs.Final.{RulesOut}
use Rattle.st_pair.specs.Pairing.{refusal}
use Rattle.st_order.specs.declared.item.Item.{Item}
use Rattle.st_order.specs.Order.{IsOrder}
use Rattle.st_order.specs.Labels.{item_has_label}
use Rattle.st_runtime.specs.declared.fault.DriveFault.{DriveFault}
use Rattle.st_runtime.specs.declared.fault.DriveFault.TheVariants as drive
use Rattle.st_runtime.specs.declared.join.record.Record.{Record}
use Rattle.st_runtime.specs.Driven.{IsDriven, IsDriveFault}
use Rattle.st_text.specs.Text.{Contents}
use Rattle.st_commands.specs.Output.{Output, bundled, judged, no_acts, no_memory}
use Rattle.st_commands.specs.Checked.{top}
use Rattle.st_commands.specs.Replayed.{replayed, stuck}
use Rattle.st_commands.specs.Audited.{report_output}
use Rattle.st_commands.specs.Charted.{drawn, no_label}
use Rattle.st_commands.specs.Recorded.{ranks, scripts_of, record_output, act_fault, thread_fault}
use Rattle.st_commands.specs.Recorded.{join_fault}

-- the output of `check` for streams and acts: their verdict, or that memory ran out
pub data ChecksTo (streams : List Stream) (acts : List Act) : Output → Type 0 where
  Judges : (v : Verdict) → IsVerdict top streams acts v → FollowsAll top streams acts v
      → PairsAll top streams acts v
      → ChecksTo streams acts (judged v)
  NoRoomToCheck : ChecksTo streams acts no_memory

-- the output of `audit` for streams: the report of what it finds, or that memory ran out
pub data AuditsTo (streams : List Stream) : Output → Type 0 where
  Finds : (found : Finding) → IsFinding top streams found → HandsOn streams found
      → ForSome (fault_of found) (RulesOut streams) → IsAudit top streams found
      → AuditsTo streams (report_output streams found)
  NoRoomToAudit : AuditsTo streams no_memory

-- the output of `chart` for streams and their items in order: the chart of the items with the
-- label, that no item has the label, or that memory ran out
pub data DrawsTo (streams : List Stream) (label : Label) (items : List Item) : Output → Type 0 where
  Draws : list_any (item_has_label streams label) items ≡ true
      → DrawsTo streams label items (drawn streams items label)
  LacksLabel : list_any (item_has_label streams label) items ≡ false
      → DrawsTo streams label items (no_label label)
  NoRoomToDraw : DrawsTo streams label items no_memory

-- the output of `chart` for streams: the one for their items in order, the report of why pairing
-- refuses them, or that memory ran out
pub data ChartsTo (streams : List Stream) (label : Label) : Output → Type 0 where
  OfOrder : (items : List Item) (out : Output) → refusal streams ≡ None → IsOrder streams items
      → DrawsTo streams label items out → ChartsTo streams label out
  OfReason : (f : PairFault) (found : Finding) → refusal streams ≡ Some f → unfit_by f ≡ Some found
      → ChartsTo streams label (report_output streams found)
  NoRoomToOrder : ChartsTo streams label no_memory

-- the output of `drive` if no record was made; NotRising doesn't come, since the pids of streams
-- rise
abbrev pub drive_refused : DriveFault → Output
drive_refused drive.Memory = no_memory
drive_refused (drive.Act p n f) = act_fault p n
drive_refused (drive.Join f) = join_fault
drive_refused drive.Thread = thread_fault
drive_refused drive.NotRising = no_memory

-- the output of `replay` for streams and acts: what the acts report, the act without a step, or
-- that memory ran out
pub data ReplaysTo (streams : List Stream) (acts : List Act) : Output → Type 0 where
  Runs : (os : List Outcome) → run top (pids_of streams) acts ≡ Some os
      → ReplaysTo streams acts (replayed (pids_of streams) acts os)
  Sticks : (n : ℕ) → SticksAt top (pids_of streams) acts n → ReplaysTo streams acts (stuck n)
  NoRoomToReplay : ReplaysTo streams acts no_memory

-- the output of `drive` for streams and acts: a record in which each of the streams' processes
-- makes its own acts, why there is none, or that memory ran out
pub data DrivesTo (streams : List Stream) (acts : List Act) : Output → Type 0 where
  Records : (r : Record) → IsDriven top ranks (pids_of streams)
      (scripts_of (pids_of streams) acts) r
      → DrivesTo streams acts (record_output r)
  Refuses : (f : DriveFault)
      → IsDriveFault top ranks (pids_of streams) (scripts_of (pids_of streams) acts) f
      → DrivesTo streams acts (drive_refused f)
  NoRoomToDrive : DrivesTo streams acts no_memory

-- the output for a bundle: that for its streams and acts, or that it has no acts
pub data OfBundle (OfActs : List Stream → List Act → Output → Type 0) (c : Contents) : Output
    → Type 0 where
  OfSome : (acts : List Act) (out : Output) → c.acts ≡ Some acts → OfActs c.streams acts out
      → OfBundle OfActs c out
  OfNone : c.acts ≡ None → OfBundle OfActs c no_acts

abbrev pub reports_output : Reports → List Act → Output
reports_output (reports.Ran streams) acts = bundled streams acts
reports_output (reports.Stuck n) acts = stuck n
