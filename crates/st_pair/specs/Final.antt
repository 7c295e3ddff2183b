-- Which acts a refusal rules out.
use Rattle.std.specs.Prelude.{ℕ, List}
use Rattle.st_core.specs.declared.types.Act.{Act}
use Rattle.st_core.specs.Run.{Stream, Shows}
use Rattle.st_core.specs.Laws.{NoReset}
use Rattle.st_pair.specs.declared.answer.PairFault.{PairFault}
use Rattle.st_pair.specs.declared.answer.PairFault.TheVariants as fault

-- no acts show the streams, whatever the greatest value of a clock
abbrev pub NeverShown : List Stream → Type 0
NeverShown streams = (top : ℕ) (acts : List Act) → ¬ Shows top streams acts

-- no acts without a reset show the streams, whatever the greatest value of a clock
abbrev pub NeverShownInOneTrace : List Stream → Type 0
NeverShownInOneTrace streams = (top : ℕ) (acts : List Act) → NoReset acts → ¬ Shows top streams acts

-- a serial that doesn't rise rules out all acts, each other reason all acts without a reset, and a
-- lack of memory none
abbrev pub RulesOut : List Stream → PairFault → Type 0
RulesOut streams fault.Memory = Unit {0}
RulesOut streams (fault.PrevNotBefore p i) = NeverShown streams
RulesOut streams f = NeverShownInOneTrace streams
