-- `put` says of the bytes what the writer says, and `Passed` says nothing more.
use Rattle.std.proofs.Common.{rules}
use Rattle.st_core.specs.Passed.{passed}
use Rattle.st_core.proofs.device.std_io.WriteToByteSink.put.Goals as goal

pub returns-then-self-clause-wrote : goal.returns-then-self-clause-wrote
returns-then-self-clause-wrote g c = (passed _ _ _, search rules)

pub returns-then-is_empty-clause-wrote : goal.returns-then-is_empty-clause-wrote
returns-then-is_empty-clause-wrote g c = (passed _ _ _, search rules)

pub returns-in-Ok-eq0-clause-wrote : goal.returns-in-Ok-eq0-clause-wrote
returns-in-Ok-eq0-clause-wrote g c =
    (passed _ _ _, rw (← c.self.view_is) (rw c.in-Ok-eq0.field-0-test at c.in-Ok-eq0.ensures.bytes))

pub returns-in-Ok-clause-wrote : goal.returns-in-Ok-clause-wrote
returns-in-Ok-clause-wrote g c = (passed _ _ _, search rules)

pub returns-in-Err-clause-wrote : goal.returns-in-Err-clause-wrote
returns-in-Err-clause-wrote g c = (passed _ _ _, search rules)
