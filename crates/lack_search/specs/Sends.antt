-- For the parts alone: hidden sends.
use Rattle.std.specs.Prelude.{◌≡◌, List, All, Some}
use Rattle.st_core.specs.declared.types.Pid.{Pid}
use Rattle.st_core.specs.declared.types.Kind.TheVariants as kind
use Rattle.st_core.specs.declared.types.Event.{Event}
use Rattle.st_core.specs.Run.{Stream}
use Rattle.st_pair.specs.Places.{event_at}
use Rattle.lack_search.specs.declared.hidden_sends.HiddenSend.{HiddenSend}

-- the send that a receive tells of
abbrev pub send_told_by : Event → Event
send_told_by received = record received { kind = kind.Send }

-- some process of the streams has, at the index of the receipt, the event that tells of the send
pub record IsSendIn (streams : List Stream) (send : HiddenSend) : Type 0 where
  pub to : Pid
  pub received : Event
  pub at : event_at streams to send.receipt ≡ Some received
  pub sent : send.event ≡ send_told_by received

-- each send is told of by an event of the streams
abbrev pub AreSendsIn : List Stream → List HiddenSend → Type 0
AreSendsIn streams sends = All (IsSendIn streams) sends
