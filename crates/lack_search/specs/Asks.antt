-- For the parts alone: stamps that ask for a message, and what they get.
use Rattle.std.specs.Prelude.{◌≡◌, Bool, true, false, List, All, Option, Some, None}
use Rattle.st_core.specs.declared.types.Event.{Event}
use Rattle.st_core.specs.declared.types.Kind.TheVariants as kind
use Rattle.st_core.specs.Run.{Stream}
use Rattle.st_pair.specs.Places.{event_at}
use Rattle.lack_search.specs.declared.asks.Ask.{Ask}
use Rattle.lack_search.specs.declared.asks.Asks.{Asks}
use Rattle.lack_search.specs.declared.asks.GivenMessage.{GivenMessage}
use Rattle.lack_search.specs.declared.asks.GivenMessage.TheVariants as given

-- the send of the message that the stamp gets
abbrev pub sent_for : List Stream → Ask → GivenMessage → Option Event
sent_for streams ask given.Missing = None
sent_for streams ask (given.Lost from index) = event_at streams from index
sent_for streams ask (given.Invented from prev) = Some (record {
  label = ask.label;
  kind = kind.Send;
  to = Some ask.process;
  from = from;
  serial = record { prev = prev; this = ask.count };
  value = 0;
})

-- the message is invented
abbrev pub is_invented : GivenMessage → Bool
is_invented given.Missing = false
is_invented (given.Lost from index) = false
is_invented (given.Invented from prev) = true

-- the stamp has no invented message
abbrev pub HasNoInvention : Ask → Type 0
HasNoInvention ask = is_invented ask.message ≡ false

-- no stamp has an invented message, so each message that was given is a lost one
pub record AreGivenLost (asks : Asks) : Type 0 where
  pub needs : All HasNoInvention asks.needs.items
  pub beginnings : All HasNoInvention asks.beginnings.items
