-- The output has the streams that the acts report, and the acts; or it names the act that has no
-- step.
use Rattle.std.proofs.Common.{◌≡◌, List, subst, sym, ap}
use Rattle.st_core.specs.declared.types.Pid.{Pid}
use Rattle.st_core.specs.declared.types.Act.{Act}
use Rattle.st_core.specs.Run.{Stream, pids_of}
use Rattle.st_check.specs.Answers.{AreReports}
use Rattle.st_check.specs.declared.verdict.Reports.{Reports}
use Rattle.st_check.specs.declared.verdict.Reports.TheVariants as reports
use Rattle.st_commands.specs.Checked.{top}
use Rattle.st_commands.specs.Parts.{ReplaysTo, Runs, Sticks, reports_output}
use Rattle.st_commands.specs.Output.{bundled}

replays_on : (streams : List Stream) (acts : List Act) (r : Reports)
    → AreReports top (pids_of streams) acts r → ReplaysTo streams acts (reports_output r acts)
replays_on streams acts (reports.Ran ran) h =
    subst (ReplaysTo streams acts) (ap (λ (s : List Stream). bundled s acts) (sym h.are_streams))
    (Runs h.outcomes h.runs)
replays_on streams acts (reports.Stuck n) h = Sticks n h

pub replays_to : (streams : List Stream) (pids : List Pid) (acts : List Act) (r : Reports)
    → pids ≡ pids_of streams
    → AreReports top pids acts r → ReplaysTo streams acts (reports_output r acts)
replays_to streams pids acts r e h =
    replays_on streams acts r (subst (λ (p : List Pid). AreReports top p acts r) e h)
