-- The loop's puts keep both mailboxes.
use Rattle.std.proofs.Common.{◌≡◌, length}
use Rattle.st_machine_tests.proofs.mailboxes.a_put_without_memory_may_be_asked_again.Given as goal

abbrev pub invariant-loop-value : goal.invariant-loop-value
invariant-loop-value g l = length l.mail.boxes ≡ 2
