-- Untold events that are put into streams: each is one that its process may report.
use Rattle.std.specs.Prelude.{◌≡◌, ℕ, true, All, List, Some, slice_get}
use Rattle.st_core.specs.declared.types.Pid.{Pid}
use Rattle.st_core.specs.Run.{Stream, pids_of}
use Rattle.st_core.specs.Streams.{is_own}
use Rattle.st_pair.specs.Pairing.{is_send}
use Rattle.lack_needs.specs.Additions.{receipt_of}
use Rattle.lack_acts.specs.declared.insertion.Insertion.{Insertion}

-- the process is listed, and the event is its own
pub record IsInsertion (streams : List Stream) (i : Insertion) : Type 0 where
  pub pid : Pid
  pub listed : slice_get (pids_of streams) i.process ≡ Some pid
  pub own : is_own pid i.event ≡ true

abbrev pub AreInsertions : List Stream → List Insertion → Type 0
AreInsertions streams untold = All (IsInsertion streams) untold

-- an untold send with this count, and its receive
pub record IsMessage (streams : List Stream) (count : ℕ) (send receive : Insertion) : Type 0 where
  pub sent : IsInsertion streams send
  pub received : IsInsertion streams receive
  pub sends : is_send send.event ≡ true
  pub receipt : receive.event ≡ receipt_of send.event
  pub counted : send.event.serial.this ≡ count
