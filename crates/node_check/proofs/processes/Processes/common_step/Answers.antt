-- The place of the act's process is that of its row and queue, and so is the place of a send's
-- receiver, if it is listed.
use Rattle.std.proofs.Common.{ap, ◌∙◌}
use Rattle.st_core.specs.Run.{pids_of}
use Rattle.st_core.specs.State.{process}
use Rattle.st_core.specs.Step.{receiver}
use Rattle.node_machine.specs.Node.{Common}
use Rattle.node_check.specs.Kept.{kept_state}
use Rattle.node_check.proofs.Keeping.{queue_within, row_within}
use Rattle.node_check.proofs.NextActs.{no_receiver, unlisted}
use Rattle.node_check.proofs.processes.Processes.common_step.Goals as goal

pub returns-in_default-clause-undone : goal.returns-in_default-clause-undone
returns-in_default-clause-undone c =
    let old = c.args.self.now in
    let s = kept_state (pids_of c.args.streams.now) old in
    no_receiver s (Common c.args.act.now)
    (ap (λ a. process s (receiver a)) c.in-Send.is
    ∙ unlisted old c.in-Send.to c.requires.kept c.in_default.ensures.missing)

pub send-requires-clause-rows : goal.send-requires-clause-rows
send-requires-clause-rows c = row_within c.requires.kept c.requires.at

pub send-requires-clause-queues : goal.send-requires-clause-queues
send-requires-clause-queues c = queue_within c.requires.kept c.requires.at

pub send-requires-clause-other_row : goal.send-requires-clause-other_row
send-requires-clause-other_row c = row_within c.requires.kept c.in-Some.ensures.found

pub send-requires-clause-other_queue : goal.send-requires-clause-other_queue
send-requires-clause-other_queue c = queue_within c.requires.kept c.in-Some.ensures.found

pub receive-requires-clause-rows : goal.receive-requires-clause-rows
receive-requires-clause-rows c = row_within c.requires.kept c.requires.at

pub receive-requires-clause-queues : goal.receive-requires-clause-queues
receive-requires-clause-queues c = queue_within c.requires.kept c.requires.at

pub inner-requires-clause-rows : goal.inner-requires-clause-rows
inner-requires-clause-rows c = row_within c.requires.kept c.requires.at

pub inner-requires-clause-queues : goal.inner-requires-clause-queues
inner-requires-clause-queues c = queue_within c.requires.kept c.requires.at
