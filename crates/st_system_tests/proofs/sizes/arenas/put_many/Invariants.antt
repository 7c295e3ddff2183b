-- There are as many mailboxes as before.
use Rattle.std.proofs.Common.{◌≡◌, length}
use Rattle.st_system_tests.proofs.sizes.arenas.put_many.Given as goal

abbrev pub invariant-loop-this : goal.invariant-loop-this
invariant-loop-this l = length l.mail.boxes ≡ length l.fn.mail.boxes
