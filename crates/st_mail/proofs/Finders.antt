-- Finders and stored lists are read and written one queue at a time, so the finder of a queue
-- follows that queue, and all others stay.
use Rattle.std.proofs.Common.{◌≡◌, ℕ, zero, suc, ◌+◌, ◌<◌, List, [], ◌∷◌, ◌++◌, length, get_or, set}
use Rattle.std.proofs.Common.{replicate, Option}
use Rattle.std.proofs.Common.{Some, None, option_map, Global, refl, ap, subst, ◌∙◌, arith}
use Rattle.std.proofs.lemmas.List.{get_or-set_same}
use Rattle.std.specs.Prelude.{Box, IfSome}
use Rattle.st_core.specs.declared.types.Message.{Message}
use Rattle.st_mail.specs.declared.index.Index.{Index}
use Rattle.st_mail.specs.Index.{IsIndex, IsIndexOf}
use Rattle.st_mail.specs.declared.finder.Finder.{Finder}
use Rattle.st_mail.specs.Found.{Finds, IsFinder, AllFound}
use Rattle.st_mail.specs.Mail.{queue_in}

-- a finder of a queue is a finder of some queue
pub some_queue : (f : Finder) (queue : List Message) → Finds f queue → IsFinder f
some_queue f queue is = by f.index is
  where
    by : (index : Option (Box Index Global)) → IfSome index (λ i. IsIndexOf i.value queue)
        → IfSome index (λ i. IsIndex i.value)
    by None is = tt
    by (Some index) is = record { queue = queue; is = is }

pub some_index : (index : Index) (queue : List Message) → IsIndexOf index queue → IsIndex index
some_index index queue is = record { queue = queue; is = is }

-- there are as many finders as lists
length_finders : (finders : List Finder) (stored : List (List Message)) → AllFound finders stored
    → length finders ≡ length stored
length_finders [] [] found = refl
length_finders [] (queue ∷ stored) found = absurd found
length_finders (f ∷ finders) [] found = absurd found
length_finders (f ∷ finders) (queue ∷ stored) found = ap suc (length_finders finders stored found.1)

found_at : (finders : List Finder) (stored : List (List Message)) (i : ℕ) (f : Finder)
    → AllFound finders stored
    → i < length stored → get_or finders i f ≡ f → Finds f (queue_in stored i)
found_at [] [] i f found within is = absurd (omega arith)
found_at [] (queue ∷ stored) i f found within is = absurd found
found_at (g ∷ finders) [] i f found within is = absurd found
found_at (g ∷ finders) (queue ∷ stored) zero f found within is =
    subst (λ h. Finds h queue) is found.0
found_at (g ∷ finders) (queue ∷ stored) (suc i) f found within is =
    found_at finders stored i f found.1 (omega arith) is

-- writing a finder of a queue and the queue at one place keeps a finder for each queue
pub found_set : (finders : List Finder) (stored : List (List Message)) (i : ℕ) (f : Finder)
    (queue : List Message)
    → AllFound finders stored → Finds f queue → AllFound (set finders i f) (set stored i queue)
found_set [] [] i f queue found is = tt
found_set [] (was ∷ stored) i f queue found is = absurd found
found_set (g ∷ finders) [] i f queue found is = absurd found
found_set (g ∷ finders) (was ∷ stored) zero f queue found is = (is, found.1)
found_set (g ∷ finders) (was ∷ stored) (suc i) f queue found is =
    (found.0, found_set finders stored i f queue found.1 is)

-- writing another finder of the same queue keeps a finder for each queue
pub kept_found : (finders : List Finder) (stored : List (List Message))
    (found : AllFound finders stored) (i : ℕ)
    (f : Finder) → Finds f (queue_in stored i) → AllFound (set finders i f) stored
kept_found [] [] found i f is = tt
kept_found [] (queue ∷ stored) found i f is = absurd found
kept_found (g ∷ finders) [] found i f is = absurd found
kept_found (g ∷ finders) (queue ∷ stored) found zero f is = (is, found.1)
kept_found (g ∷ finders) (queue ∷ stored) found (suc i) f is =
    (found.0, kept_found finders stored found.1 i f is)

-- one more finder of an empty queue keeps a finder for each queue
pub found_more : (finders : List Finder) (n : ℕ) (f : Finder) → AllFound finders (replicate n [])
    → Finds f []
    → AllFound (finders ++ f ∷ []) (replicate (suc n) [])
found_more [] zero f found is = (is, tt)
found_more [] (suc n) f found is = absurd found
found_more (g ∷ finders) zero f found is = absurd found
found_more (g ∷ finders) (suc n) f found is = (found.0, found_more finders n f found.1 is)

-- adding 0 to a place that was found leaves it
pub from_zero : (place : Option ℕ) → option_map (λ k. 0 + k) place ≡ place
from_zero None = refl
from_zero (Some k) = ap (λ j. Some j) (omega arith)

-- THE QUEUE THAT A CALL NAMES

module _ (finders : List Finder) (stored : List (List Message)) (found : AllFound finders stored)
    (lists : List (List Message)) (view : stored ≡ lists) (i : ℕ) (within : i < length lists) where
  pub in_finders : i < length finders
  in_finders = omega (arith, length_finders finders stored found, ap length view)

  module _ (f : Finder) (is : get_or finders i f ≡ f) where
    pub finder_of : Finds f (queue_in lists i)
    finder_of =
        subst (λ (ls : List (List Message)). Finds f (queue_in ls i)) view
        (found_at finders stored i f found (omega (arith, ap length view)) is)

  -- writing its finder and its list keeps a finder for each queue
  pub written_found : (f : Finder) (queue : List Message) (new : List (List Message))
      → new ≡ set stored i queue
      → Finds f (queue_in new i) → AllFound (set finders i f) new
  written_found f queue new is finds =
      let inside : i < length stored = omega (arith, ap length view) in
      let there : queue_in new i ≡ queue =
      ap (λ (ls : List (List Message)). queue_in ls i) is ∙ get_or-set_same stored i queue []
      inside in
      rw is (found_set finders stored i f queue found (subst (Finds f) there finds))
