-- Full streams, which are those of a run without a reset that reports everything: what the streams
-- alone say of that, and the run.
use Rattle.std.specs.Prelude.{◌≡◌, ℕ, ◌≤◌, true, false, List, take, None, Some}
use Rattle.st_core.specs.declared.types.Pid.{Pid}
use Rattle.st_core.specs.declared.types.Act.{Act}
use Rattle.st_core.specs.declared.types.Event.{Event}
use Rattle.st_core.specs.Laws.{GoesOnFrom, NoReset, ReportsEverything}
use Rattle.st_core.specs.Run.{Shows, Stream, pids_of}
use Rattle.st_core.specs.State.{zero_state}
use Rattle.st_core.specs.Streams.{events_of}
use Rattle.st_pair.specs.Pairing.{refusal}
use Rattle.st_pair.specs.Places.{event_at, is_stamp}
use Rattle.st_order.specs.Items.{is_hidden}

-- Pairing accepts the streams, each send and print goes on from the events of its process before
-- it, no receive's send is hidden, and a clock can have each count.
pub record IsFull (top : ℕ) (streams : List Stream) : Type 0 where
  pub accepted : refusal streams ≡ None
  pub goes_on : (p : Pid) (i : ℕ) (e : Event) → event_at streams p i ≡ Some e → is_stamp e ≡ true
      → GoesOnFrom (take i (events_of streams p)) e
  pub reported : (p : Pid) (i : ℕ) (e : Event) → event_at streams p i ≡ Some e
      → is_hidden streams e ≡ false
  pub within : (p : Pid) (i : ℕ) (e : Event) → event_at streams p i ≡ Some e → e.serial.this ≤ top

-- acts without a reset show the streams, and in their run every stamp and every receive of a token
-- is reported
pub record IsFullyShown (top : ℕ) (streams : List Stream) : Type 0 where
  pub acts : List Act
  pub shows : Shows top streams acts
  pub one_trace : NoReset acts
  pub whole : ReportsEverything (zero_state (pids_of streams)) acts shows.0
