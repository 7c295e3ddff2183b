-- The streams' pids rise, so a replay fails only if memory runs out.
use Rattle.std.proofs.Common.{List, subst, sym}
use Rattle.st_core.specs.declared.types.Pid.{Pid}
use Rattle.st_core.specs.Pid.{IsRising}
use Rattle.st_commands.specs.Output.{no_memory}
use Rattle.st_commands.specs.Parts.{reports_output, NoRoomToReplay}
use Rattle.st_commands.proofs.Replays.{replays_to}
use Rattle.st_commands.proofs.replay.replay_acts.Goals as goal

pub unreachable-requires : goal.unreachable-requires
unreachable-requires g c =
    let not_rising = rw c.in-Err-NotRising.field-0-is at c.in-Err-NotRising.ensures.fault in
    not_rising (subst (λ (ps : List Pid). IsRising ps)
    (sym c.pids.ensures.value) c.pids.ensures.streams.draft.rising)

pub returns-in-Ok : goal.returns-in-Ok
returns-in-Ok g c =
    record {
      output = reports_output c.in-Ok.reports c.args.acts.now;
      owed =
          replays_to c.args.streams.now c.pids.result.now c.args.acts.now c.in-Ok.reports
          c.pids.ensures.value c.in-Ok.ensures.reports;
      delivered = c.tell_reports.ensures;
    }

pub returns-in-Err-Memory : goal.returns-in-Err-Memory
returns-in-Err-Memory g c =
    record { output = no_memory; owed = NoRoomToReplay; delivered = c.tell_fault.ensures }
