-- For the parts alone: messages that were sent and never received.
use Rattle.std.specs.Prelude.{◌≡◌, ℕ, List, All, Option, Some, None}
use Rattle.st_core.specs.declared.types.Pid.{Pid}
use Rattle.st_core.specs.declared.types.Label.{Label}
use Rattle.st_core.specs.declared.types.Kind.TheVariants as kind
use Rattle.st_core.specs.declared.types.Event.{Event}
use Rattle.st_core.specs.Run.{Stream}
use Rattle.st_pair.specs.Links.{IsPairing, ProcessLinks}
use Rattle.st_pair.specs.Pairing.{receiver_at}
use Rattle.st_pair.specs.Places.{event_at}
use Rattle.lack_search.specs.declared.lost_messages.Choice.{Choice}
use Rattle.lack_search.specs.declared.lost_messages.Choice.TheVariants as choice
use Rattle.lack_search.specs.declared.lost_messages.LostMessage.{LostMessage}
use Rattle.lack_search.specs.declared.lost_messages.MessageKey.{MessageKey}

-- the label, if it must be the stamp's
abbrev pub counted_label : Choice → Label → Option Label
counted_label choice.OwnLabel label = Some label
counted_label choice.AnyLabel label = None

-- the key that a message with this receiver, count and label shares with the stamps that can get
-- it
abbrev pub key_of : Choice → Pid → ℕ → Label → MessageKey
key_of choice to count label = record {
  to = to;
  count = count;
  label = counted_label choice label;
}

-- the message is that of a reported send, and no receive is paired with it
pub record IsLostIn (streams : List Stream) (pairing : List ProcessLinks)
    (message : LostMessage) : Type 0 where
  pub sent : Event
  pub at : event_at streams message.from message.index ≡ Some sent
  pub sends : sent.kind ≡ kind.Send
  pub to : sent.to ≡ Some message.to
  pub count : sent.serial.this ≡ message.count
  pub label : sent.label ≡ message.label
  pub unreceived : IsPairing streams pairing → receiver_at streams message.from message.index ≡ None

-- each message is that of a reported send, and no receive is paired with it
abbrev pub AreLostIn : List Stream → List ProcessLinks → List LostMessage → Type 0
AreLostIn streams pairing lost = All (IsLostIn streams pairing) lost
