-- `take` says of the bytes what the reader says, and `Passed` and `HasEnded` say nothing more.
use Rattle.std.proofs.Common.{rules}
use Rattle.st_core.specs.Passed.{passed, has_ended}
use Rattle.st_core.proofs.device.std_io.ReadFromByteSource.take.Goals as goal

pub returns-then-self-clause-given : goal.returns-then-self-clause-given
returns-then-self-clause-given g c = (passed _ _ _, search rules)

pub returns-then-is_empty-clause-given : goal.returns-then-is_empty-clause-given
returns-then-is_empty-clause-given g c = (passed _ _ _, search rules)

pub returns-in-Ok-clause-given : goal.returns-in-Ok-clause-given
returns-in-Ok-clause-given g c = (passed _ _ _, search rules)

pub returns-in-Ok-clause-end : goal.returns-in-Ok-clause-end
returns-in-Ok-clause-end g c none room = (has_ended _, c.in-Ok.ensures.bytes.1 none room)

pub returns-in-Err-clause-given : goal.returns-in-Err-clause-given
returns-in-Err-clause-given g c = (passed _ _ _, search rules)
