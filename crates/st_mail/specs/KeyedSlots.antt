-- Slots that have keys.
use Rattle.std.specs.Prelude.{◌≡◌, ℕ, ◌<◌, ◌≤◌, Bool, true, false, Option, IfSome, IfNone, is_some}
use Rattle.std.specs.declared.cmp.Ordering.{Ordering}
use Rattle.std.specs.Ordering.{nat_cmp, ordering_then}
use Rattle.std.specs.Option.{option_map_or}
use Rattle.std.specs.BTreeSet.{contains}
use Rattle.st_mail.specs.declared.keyed_slots.KeyedSlots.{KeyedSlots}

-- pairs of a key and a slot are ordered by key and then slot
abbrev pub pair_cmp : {K : Type 0} → (K → K → Ordering) → K × ℕ → K × ℕ → Ordering
pair_cmp cmp p q = ordering_then (cmp p.0 q.0) (nat_cmp p.1 q.1)

-- whether keys are kept
abbrev pub is_kept : {K : Type 0} → KeyedSlots K → Bool
is_kept keyed = is_some keyed.pairs

-- whether the slot has the key; no slot has one if keys aren't kept
abbrev pub has_key : {K : Type 0} → (K → K → Ordering) → KeyedSlots K → K → ℕ → Bool
has_key cmp keyed k s =
    option_map_or (λ pairs. contains (pair_cmp cmp) pairs (k, s)) keyed.pairs false

-- `found` is the least number from `start` on that passes the test, or nothing if none passes
abbrev pub IsFirst : (ℕ → Bool) → ℕ → Option ℕ → Type 0
IsFirst test start found = IfSome found (λ s. (start ≤ s) × (test s ≡ true)
    × ((k : ℕ) → start ≤ k → k < s → test k ≡ false))
    × IfNone found ((k : ℕ) → start ≤ k → test k ≡ false)
