-- Completions: all that each process may have done, and which of it is told.
use Rattle.std.specs.Prelude.{◌≡◌, ℕ, Bool, false, not, List, [], ◌∷◌, sum_by}
use Rattle.std.specs.List.{count_by, AllByRecursion}
use Rattle.st_core.specs.declared.types.Pid.{Pid}
use Rattle.st_core.specs.declared.types.Event.{Event}
use Rattle.st_core.specs.Pid.{IsRising}
use Rattle.st_core.specs.Run.{Stream}
use Rattle.st_core.specs.Streams.{IsStreams, lists}
use Rattle.st_plan.specs.Marks.{all_streams, told_streams, Marked, Whole}
use Rattle.lack_laws.specs.Local.{IsNeedless}
use Rattle.lack_laws.specs.Silent.{with_silent}
use Rattle.lack_needs.specs.Additions.{AreAdditionsNeeded}

-- The streams are completed by whole streams whose told events they are, and in which nothing is
-- needed: so acts without a reset show the streams.
pub record IsCompletionOf (top : ℕ) (streams : List Stream) (wholes : List Whole) : Type 0 where
  pub told : told_streams wholes ≡ streams
  pub sound : IsStreams (all_streams wholes)
  pub needless : IsNeedless top (all_streams wholes)

-- all that each process may have done, and the processes that the streams don't list
pub record Completed : Type 0 where
  pub wholes : List Whole
  pub unlisted : List Pid

-- The streams are completed together with processes that they don't list, which tell nothing. Each
-- event that is added is needed.
pub record Completes (top : ℕ) (streams : List Stream) (completed : Completed) : Type 0 where
  pub apart : AllByRecursion (λ q. lists streams q ≡ false) completed.unlisted
  pub rising : IsRising completed.unlisted
  pub is : IsCompletionOf top (with_silent streams completed.unlisted) completed.wholes
  pub needed : AreAdditionsNeeded completed.wholes

-- the number of untold events
abbrev pub added_in : List Whole → ℕ
added_in wholes = sum_by (λ w. count_by (λ m. not m.told) w.marked) wholes

-- the events with their marks; an event past the end of the marks is untold
abbrev pub marked_with : List Event → List Bool → List Marked
marked_with [] marks = []
marked_with (e ∷ es) [] = record { event = e; told = false } ∷ marked_with es []
marked_with (e ∷ es) (told ∷ marks) = record { event = e; told = told } ∷ marked_with es marks

-- the streams with the marks of each process
abbrev pub wholes_with : List Stream → List (List Bool) → List Whole
wholes_with [] lists = []
wholes_with (x ∷ rest) [] = record { pid = x.pid; marked = marked_with x.events [] }
    ∷ wholes_with rest []
wholes_with (x ∷ rest) (marks ∷ lists) =
    record { pid = x.pid; marked = marked_with x.events marks } ∷ wholes_with rest lists
