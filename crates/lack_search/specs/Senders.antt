-- For the parts alone: needs without a message, and their senders.
use Rattle.std.specs.Prelude.{◌≡◌, ℕ, ◌-◌, ◌%◌, ◌^◌, min, Bool, true, false, List, All, Some}
use Rattle.std.specs.Prelude.{get_or, slice_get, vec_len}
use Rattle.lack_search.specs.declared.asks.Ask.{Ask}
use Rattle.lack_search.specs.declared.asks.GivenMessage.TheVariants as given
use Rattle.lack_search.specs.declared.senders.Asked.{Asked}
use Rattle.lack_search.specs.declared.senders.Giver.{Giver}
use Rattle.lack_search.specs.declared.senders.Stamp.{Stamp}
use Rattle.lack_search.specs.declared.senders.Turn.{Turn}

-- a need may ask for the count, as far as its remainder tells
abbrev pub may_have : Asked → ℕ → Bool
may_have asked count = get_or asked.remainders.items (count % vec_len asked.remainders) false

-- a need may ask for the count of each stamp
abbrev pub AreAsked : Asked → List Stamp → Type 0
AreAsked asked stamps = All (λ stamp. may_have asked stamp.count ≡ true) stamps

-- the turn is that of a stamp without a message
pub record IsTurnOf (fed : List Ask) (turn : Turn) : Type 0 where
  pub number : ℕ
  pub ask : Ask
  pub at : slice_get fed number ≡ Some ask
  pub short : turn.ask ≡ min number (2 ^ 32 - 1)
  pub count : turn.count ≡ ask.count
  pub missing : ask.message ≡ given.Missing

-- each turn is that of a stamp without a message
abbrev pub AreTurnsOf : List Ask → List Turn → Type 0
AreTurnsOf fed turns = All (IsTurnOf fed) turns

-- the giver keeps its streams, its stamps and its unlisted processes
pub record KeepsStreams (old new : Giver) : Type 0 where
  pub streams : new.streams ≡ old.streams
  pub stamps : new.stamps ≡ old.stamps
  pub unlisted : new.unlisted ≡ old.unlisted
