-- Events that happened in every run without a reset that reports the streams, even if nobody
-- reported them.
use Rattle.std.specs.Prelude.{◌≡◌, ℕ, Bool, false, List, length, take, slice_get, Some}
use Rattle.st_core.specs.declared.types.Act.{Act}
use Rattle.st_core.specs.declared.types.Event.{Event}
use Rattle.st_core.specs.declared.types.Pid.{Pid}
use Rattle.st_core.specs.Laws.{NoReset}
use Rattle.st_core.specs.Run.{Shows, Stream}
use Rattle.st_pair.specs.Places.{is_stamp}
use Rattle.st_plan.specs.Marks.{Marked, told_events}
use Rattle.lack_laws.specs.Needs.{marked_of}
use Rattle.lack_laws.specs.Silent.{with_silent}
use Rattle.lack_laws.specs.Wholes.{wholes_of}

-- In each run without a reset that reports the streams, with any others that report nothing, the
-- property holds of all that p does, each event marked if it was told.
abbrev pub HoldsInAllRuns : ℕ → List Stream → Pid → (List Marked → Type 0) → Type 0
HoldsInAllRuns top streams p Holds = (others : List Pid) (acts : List Act)
    (shows : Shows top (with_silent streams others) acts) → NoReset acts
    → Holds (marked_of (wholes_of top (with_silent streams others) acts shows.0) p)

-- an untold receive with count v comes after i told events and before the next one
pub record HasLostReceive (i v : ℕ) (ms : List Marked) : Type 0 where
  pub index : ℕ
  pub event : Event
  pub at : slice_get ms index ≡ Some (record { event = event; told = false })
  pub receives : is_stamp event ≡ false
  pub count : event.serial.this ≡ v
  pub place : length (told_events (take index ms)) ≡ i

-- e is among the events, told or not
pub record HasEvent (e : Event) (ms : List Marked) : Type 0 where
  pub index : ℕ
  pub told : Bool
  pub at : slice_get ms index ≡ Some (record { event = e; told = told })
