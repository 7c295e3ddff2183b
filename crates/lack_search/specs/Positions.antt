-- For the parts alone: the indexes of a candidate's events in its whole streams.
use Rattle.std.specs.Prelude.{◌≡◌, ℕ, ◌+◌, ◌-◌, ◌^◌, [], ◌∷◌, ◌++◌, min, Option, option_and_then}
use Rattle.std.specs.Prelude.{slice_get}
use Rattle.lack_search.specs.declared.merged_events.Origin.{Origin}
use Rattle.lack_search.specs.declared.merged_events.Origin.TheVariants as origin
use Rattle.lack_search.specs.declared.positions.Positions.{Positions}

-- no event was added yet
pub record AreEmpty (positions : Positions) : Type 0 where
  pub starts : positions.starts.items ≡ []
  pub reported : positions.reported.items ≡ []
  pub hidden : positions.hidden.items ≡ []
  pub fed : positions.fed.items ≡ []
  pub invented : positions.invented.items ≡ []

-- the index comes last among those with its origin
abbrev pub IsIndexNoted : Origin → ℕ → Positions → Positions → Type 0
IsIndexNoted origin.Reported index old new = new.reported.items ≡ old.reported.items ++ index ∷ []
IsIndexNoted origin.Hidden index old new = new.hidden.items ≡ old.hidden.items ++ index ∷ []
IsIndexNoted origin.Fed index old new = new.fed.items ≡ old.fed.items ++ index ∷ []
IsIndexNoted origin.Invented index old new = new.invented.items ≡ old.invented.items ++ index ∷ []

-- the index, among all events of a process, of its reported event at `index`
abbrev pub index_of_reported : Positions → ℕ → ℕ → Option ℕ
index_of_reported positions process index = option_and_then
    (λ start. slice_get positions.reported.items (min (start + index) (2 ^ 64 - 1)))
    (slice_get positions.starts.items process)
