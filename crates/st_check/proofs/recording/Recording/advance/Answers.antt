-- The world steps exactly if the definition does, and the report is added to the stream of its
-- actor.
use Rattle.std.proofs.Common.{◌≡◌, sym, ◌∙◌, ap}
use Rattle.st_core.specs.declared.types.Pid.{Pid}
use Rattle.st_core.specs.Run.{pids_of}
use Rattle.st_core.specs.Streams.{is_own, lists}
use Rattle.st_world.specs.declared.outcome.StepFault.TheVariants as fault
use Rattle.st_check.proofs.Records.{no_step_but, no_run_at, own_at, listed_at, recorded_at}
use Rattle.st_check.proofs.recording.Recording.advance.Goals as goal

pub returns-in-Err-Unknown : goal.returns-in-Err-Unknown
returns-in-Err-Unknown g c =
    no_run_at g.row.TOP (pids_of c.args.self.now.streams) c.args.acts.now c.args.number _
    c.args.keeps_replies c.args.self.now.world c.args.self.now.streams c.args.self.now.replies
    c.requires.within c.requires.recorded
    (no_step_but c.in-Err-Unknown.ensures.no_step
    (λ memory. let other : fault.Unknown ≡ fault.Memory =
    sym c.in-Err-Unknown.field-0-is ∙ memory in cc))

pub returns-in-Err-ClockFull : goal.returns-in-Err-ClockFull
returns-in-Err-ClockFull g c =
    no_run_at g.row.TOP (pids_of c.args.self.now.streams) c.args.acts.now c.args.number _
    c.args.keeps_replies c.args.self.now.world c.args.self.now.streams c.args.self.now.replies
    c.requires.within c.requires.recorded
    (no_step_but c.in-Err-ClockFull.ensures.no_step
    (λ memory. let other : fault.ClockFull ≡ fault.Memory =
    sym c.in-Err-ClockFull.field-0-is ∙ memory in cc))

pub record-requires-clause-listed : goal.record-requires-clause-listed
record-requires-clause-listed g c =
    ap (lists c.args.self.now.streams) c.actor.ensures
    ∙ listed_at g.row.TOP (pids_of c.args.self.now.streams) c.args.acts.now c.args.number _
    c.args.keeps_replies c.args.self.now.world c.args.self.now.streams c.args.self.now.replies
    c.requires.within c.requires.recorded _ c.in-Ok.ensures.step

pub record-requires-clause-own : goal.record-requires-clause-own
record-requires-clause-own g c = λ e reported_streams.
    ap (λ (p : Pid). is_own p e) c.actor.ensures
    ∙ own_at g.row.TOP (pids_of c.args.self.now.streams) c.args.acts.now c.args.number _
    c.args.keeps_replies c.args.self.now.world c.args.self.now.streams c.args.self.now.replies
    c.requires.within c.requires.recorded _ c.in-Ok.ensures.step e
    reported_streams

pub returns : goal.returns
returns g c =
    recorded_at g.row.TOP (pids_of c.args.self.now.streams) c.args.acts.now c.args.number _
    c.args.keeps_replies c.args.self.now.world c.args.self.now.streams c.args.self.now.replies
    c.requires.within c.requires.recorded _ c.in-Ok.ensures.step
    c.actor.result c.record.new.streams c.keep.new.replies c.actor.ensures c.in_ok-record.ensures
    c.in_ok-keep.ensures
