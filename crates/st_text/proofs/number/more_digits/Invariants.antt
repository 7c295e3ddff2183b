-- Whatever was read before, these digits follow it.
use Rattle.std.proofs.Common.{ℕ, List, length}
use Rattle.st_text.specs.Parts.Digits.{HasRead}
use Rattle.st_text.proofs.number.more_digits.Given as goal

abbrev pub invariant-loop-digit : goal.invariant-loop-digit
invariant-loop-digit l = (all : List ℕ) → HasRead all l.bytes l.fn.n → HasRead all l.rest l.n

abbrev pub decreases-loop-digit : goal.decreases-loop-digit
decreases-loop-digit l = length l.rest
