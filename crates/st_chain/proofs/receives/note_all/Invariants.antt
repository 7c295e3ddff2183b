-- So far the table knows for each count the last receive with it.
use Rattle.std.proofs.Common.{◌≡◌, ℕ}
use Rattle.std.specs.BTreeMap.{get}
use Rattle.std.specs.Ordering.{nat_cmp}
use Rattle.st_chain.specs.Causes.{received_before}
use Rattle.st_chain.proofs.receives.note_all.Given as goal

abbrev pub invariant-loop-i : goal.invariant-loop-i
invariant-loop-i l = (this : ℕ) → get nat_cmp l.places this ≡ received_before l.events this l.i
