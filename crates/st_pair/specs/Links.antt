-- How a pairing is kept: a link for each event, which names its partner.
use Rattle.std.specs.Prelude.{◌≡◌, ℕ, List, [], ◌∷◌, map, length, find, Option, Some, None}
use Rattle.std.specs.Prelude.{slice_get}
use Rattle.st_core.specs.declared.types.Pid.{Pid}
use Rattle.st_core.specs.declared.types.Kind.TheVariants as kind
use Rattle.st_core.specs.declared.types.Event.{Event}
use Rattle.st_core.specs.Pid.{pid_eq, IsRising}
use Rattle.st_core.specs.Run.{Stream}
use Rattle.st_pair.specs.declared.answer.Source.{Source}
use Rattle.st_pair.specs.declared.answer.Source.TheVariants as source
use Rattle.st_pair.specs.declared.pairing.Link.{Link}
use Rattle.st_pair.specs.declared.pairing.Link.TheVariants as link
use Rattle.st_pair.specs.Pairing.{refusal, receive_of, stamp_of}

-- the link of a send, by the place of the receive that is paired with it
abbrev pub sent_link : Option (Pid × ℕ) → Link
sent_link None = link.Unpaired
sent_link (Some at) = link.To at.0 at.1

-- the link of a receive from q, by the send or print of q that has its count
abbrev pub received_link : Pid → Option (ℕ × Event) → Link
received_link q None = link.Hidden
received_link q (Some f) = link.From q f.0

-- the link of an event of p
abbrev pub link_of : List Stream → Pid → Event → Link
link_of streams p e = elim e.kind [
  | kind.Send ↦ sent_link (receive_of streams p e.serial.this)
  | kind.Receive ↦
      received_link e.from (stamp_of streams e.from e.serial.this)
  | kind.Print ↦ link.Printed
]

-- a process with the links of its events
pub record ProcessLinks : Type 0 where
  pub pid : Pid
  pub links : List Link

abbrev pub links_in : List Stream → Stream → List Link
links_in all s = map (link_of all s.pid) s.events

-- each of these streams' processes with its links to events of all streams
abbrev pub pairing_of : List Stream → List Stream → List ProcessLinks
pairing_of all streams = map (λ s. record { pid = s.pid; links = links_in all s }) streams

-- pairing accepts the streams, and the pairing has the links of their events
pub record IsPairing (streams : List Stream) (pairing : List ProcessLinks) : Type 0 where
  pub accepted : refusal streams ≡ None
  pub links : pairing ≡ pairing_of streams streams

-- each pid with the list of links in the same place
abbrev pub link_rows : List Pid → List (List Link) → List ProcessLinks
link_rows [] lists = []
link_rows (p ∷ ps) [] = []
link_rows (p ∷ ps) (links ∷ lists) = record { pid = p; links = links } ∷ link_rows ps lists

-- there are as many lists of links as pids, and the pids rise
pub record AreLinkLists (pids : List Pid) (lists : List (List Link)) : Type 0 where
  pub even : length lists ≡ length pids
  pub rising : IsRising pids

-- the link of the event at (p, i), if there is one
abbrev pub link_at : List ProcessLinks → Pid → ℕ → Option Link
link_at pairing p i =
    slice_get (elim (find (λ x. pid_eq x.pid p) pairing) [ None ↦ [] | Some x ↦ x.links ]) i

-- where a receive's message came from, by the receive's link; none for a send or a print
abbrev pub source_in : Link → Option Source
source_in (link.From q j) = Some (source.Event q j)
source_in link.Hidden = Some source.Hidden
source_in l = None

-- the place of a send's receive, by the send's link; none if it has none
abbrev pub receiver_in : Link → Option (Pid × ℕ)
receiver_in (link.To p i) = Some (p, i)
receiver_in l = None
