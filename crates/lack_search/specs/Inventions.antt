-- For the parts alone: invented messages.
use Rattle.std.specs.Prelude.{◌≡◌, ℕ, ◌+◌, ◌&&◌, nat_le, nat_lt, List, map, length, Option, Some}
use Rattle.std.specs.Prelude.{None, if◌then◌else◌, vec_len}
use Rattle.st_core.specs.declared.types.Pid.{Pid}
use Rattle.st_core.specs.declared.types.Kind.TheVariants as kind
use Rattle.st_core.specs.declared.types.Event.{Event}
use Rattle.st_pair.specs.Places.{is_stamp}
use Rattle.lack_needs.specs.declared.flaws.Left.{Left}
use Rattle.lack_search.specs.declared.asks.Ask.{Ask}
use Rattle.lack_search.specs.declared.asks.GivenMessage.TheVariants as given
use Rattle.lack_search.specs.declared.inventions.Invention.{Invention}
use Rattle.lack_search.specs.declared.inventions.Inventor.{Inventor}
use Rattle.lack_search.specs.declared.senders.Turn.{Turn}

-- the send of an invented message
abbrev pub sent_as : Invention → Event
sent_as invention = record {
  label = invention.label;
  kind = kind.Send;
  to = Some invention.to;
  from = invention.sender;
  serial = record { prev = invention.prev; this = invention.count };
  value = 0;
}

-- the prev of an invented send with this count before event e: that of e, if a trace can begin
-- with it there, else the one that the events before leave
abbrev pub prev_before : Left → ℕ → Option Event → ℕ
prev_before left count None = left.prev
prev_before left count (Some e) =
    if is_stamp e && (nat_le left.greatest e.serial.prev && nat_lt e.serial.prev count)
    then e.serial.prev else left.prev

-- each send that was taken has its prev
abbrev pub LeavesPrevs : Inventor → Inventor → Type 0
LeavesPrevs old new =
    vec_len new.prevs + length new.inventions.now ≡ vec_len old.prevs + length old.inventions.now

-- the invention is the send, with prev 0, of the sender's message for the need
pub record IsSendFor (turn : Turn) (sender : Pid) (invention : Invention) : Type 0 where
  pub count : invention.count ≡ turn.count
  pub prev : invention.prev ≡ 0
  pub from : invention.sender ≡ sender
  pub ask : invention.ask ≡ turn.ask

-- the stamp without its message
abbrev pub without_message : Ask → Ask
without_message ask = record ask { message = given.Missing }

abbrev pub without_messages : List Ask → List Ask
without_messages asks = map without_message asks
