-- The hop back from an event, and the premises on which it rests.
use Rattle.std.specs.Prelude.{ℕ, suc, ◌==◌, ◌&&◌, List, Option, Some, None, if◌then◌else◌}
use Rattle.std.specs.Prelude.{[], length, slice_get, take}
use Rattle.st_core.specs.declared.types.Pid.{Pid}
use Rattle.st_core.specs.declared.types.Label.{Label}
use Rattle.st_core.specs.declared.types.Event.{Event}
use Rattle.st_core.specs.Run.{Stream}
use Rattle.st_core.specs.Streams.{events_of}
use Rattle.st_pair.specs.Places.{is_stamp}
use Rattle.node_streams.specs.Messages.{each_from, send_of}
use Rattle.node_hops.specs.Events.{take_before, row_first}
use Rattle.node_hops.specs.declared.hop.NodeHop.{NodeHop}
use Rattle.node_hops.specs.declared.hop.NodeHop.TheVariants as hop
use Rattle.node_hops.specs.declared.hop.NodePremises.{NodePremises}
use Rattle.node_hops.specs.declared.hop.NodePremises.TheVariants as premises

-- the hop of a receive from q, by the index of its send there
abbrev pub node_hop_to_send : Pid → Option ℕ → NodeHop
node_hop_to_send q (Some j) = hop.Sent q j
node_hop_to_send q None = hop.Unsent

-- the label of event j, or the given one if there is no event j
abbrev pub label_there_or : List Event → ℕ → Label → Label
label_there_or es j label = elim (slice_get es j) [ None ↦ label | Some e ↦ e.label ]

-- the hop to the receive at index j, or over a change of label if the stamp's label is another
abbrev pub node_hop_by_label : ℕ → Label → Label → NodeHop
node_hop_by_label j received label =
    if received.0 == label.0 then hop.After j else hop.OtherLabel j received

-- the hop of a send or print, by where its row begins and by the receive of its prev directly
-- before the row
abbrev pub node_hop_by : List Event → ℕ → Label → ℕ → Option ℕ → NodeHop
node_hop_by es prev label start (Some j) = node_hop_by_label j (label_there_or es j label) label
node_hop_by es prev label start None =
    if start == 0 && prev == 0 then hop.Begins else hop.Moved start

-- the hop of a send or print after the first i events of its process
abbrev pub hop_of_stamp : List Event → ℕ → Event → NodeHop
hop_of_stamp es i e =
    (let start = row_first e.serial.prev es i in
    node_hop_by es e.serial.prev e.label start (take_before e.serial.prev es start))

-- the hop of the event e, event i of p
abbrev pub node_hop_of : List Stream → Pid → ℕ → Event → NodeHop
node_hop_of streams p i e =
    if is_stamp e
    then hop_of_stamp (events_of streams p) i e
    else node_hop_to_send e.from (send_of streams (take i (events_of streams p)) e)

-- the hop of each event of p
abbrev pub node_hops_of : List Stream → Pid → List NodeHop
node_hops_of streams p =
    each_from (λ before e. node_hop_of streams p (length before) e) [] (events_of streams p)

-- the premises on which a hop rests
abbrev pub node_premises_of : NodeHop → NodePremises
node_premises_of (hop.Sent q j) = premises.SendsReported
node_premises_of hop.Unsent = premises.Nothing
node_premises_of (hop.After j) = premises.KeptToken
node_premises_of (hop.OtherLabel j m) = premises.KeptCounters
node_premises_of hop.Begins = premises.KeptCounters
node_premises_of (hop.Moved k) = premises.Nothing

-- the number of its process's events before the stretch of the run that a hop's premises are about
abbrev pub events_before : NodeHop → ℕ
events_before (hop.After j) = suc j
events_before (hop.OtherLabel j m) = suc j
events_before back = 0
