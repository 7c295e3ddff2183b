-- For the parts alone: the judge's tests of each event, after which nothing is needed in whole
-- streams.
use Rattle.std.specs.Prelude.{◌≡◌, ℕ, true, false, List, [], get_or, take, slice_get, Some}
use Rattle.st_core.specs.declared.types.Event.{Event}
use Rattle.st_core.specs.Run.{Stream, pids_of}
use Rattle.st_pair.specs.Pairing.{is_send}
use Rattle.st_pair.specs.Places.{event_at, is_stamp}
use Rattle.lack_needs.specs.Additions.{receipt_of}
use Rattle.lack_needs.specs.Flaws.{GoesOnWithin}

-- the link of an event: the index of the other end of its message
abbrev pub other_end : List (List ℕ) → ℕ → ℕ → ℕ
other_end links place index = get_or (get_or links place []) index 0

-- the receive at index i has its send among the events of its sender, and the send's link is i
pub record IsLinked (streams : List Stream) (links : List (List ℕ)) (i : ℕ)
    (e : Event) : Type 0 where
  pub place : ℕ
  pub at : slice_get (pids_of streams) place ≡ Some e.from
  pub index : ℕ
  pub sent : Event
  pub there : event_at streams e.from index ≡ Some sent
  pub sends : is_send sent ≡ true
  pub same : receipt_of sent ≡ e
  pub back : other_end links place index ≡ i

-- event i goes on from the events before it, and has its send if it is a receive
pub record IsEventFit (top : ℕ) (streams : List Stream) (links : List (List ℕ)) (es : List Event)
    (i : ℕ)
    (e : Event) : Type 0 where
  pub goes_on : GoesOnWithin top (take i es) e
  pub linked : is_stamp e ≡ false → IsLinked streams links i e

-- each event of the process is fit
abbrev pub AreEventsFit : ℕ → List Stream → List (List ℕ) → List Event → Type 0
AreEventsFit top streams links es = (i : ℕ) (e : Event) → slice_get es i ≡ Some e
    → IsEventFit top streams links es i e
