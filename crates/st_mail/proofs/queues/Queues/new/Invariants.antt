-- Each finder so far is one of an empty queue.
use Rattle.std.proofs.Common.{[], replicate}
use Rattle.st_mail.specs.Found.{AllFound}
use Rattle.st_mail.proofs.queues.Queues.new.Given as goal

abbrev pub invariant-loop : goal.invariant-loop
invariant-loop l = AllFound l.finders.items (replicate l.counter [])
