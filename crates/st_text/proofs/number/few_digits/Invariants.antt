-- Whatever was read before, these digits follow it.
use Rattle.std.proofs.Common.{ℕ, List}
use Rattle.st_text.specs.Parts.Digits.{HasRead}
use Rattle.st_text.proofs.number.few_digits.Given as goal

abbrev pub invariant-loop : goal.invariant-loop
invariant-loop l = (all : List ℕ) → HasRead all l.bytes l.fn.n → HasRead all l.rest l.n
