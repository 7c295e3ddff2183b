-- The place of the act's process is that of its row and queue.
use Rattle.node_check.proofs.Keeping.{queue_within, row_within}
use Rattle.node_check.proofs.processes.Processes.step.Goals as goal

pub answer-requires-clause-rows : goal.answer-requires-clause-rows
answer-requires-clause-rows c = row_within c.requires.kept c.requires.at

pub answer-requires-clause-queues : goal.answer-requires-clause-queues
answer-requires-clause-queues c = queue_within c.requires.kept c.requires.at
