-- The number of counts that a process passed unreported below the count of a send or print.
use Rattle.std.specs.Prelude.{ℕ, ◌+◌, ◌-◌, ◌^◌, ◌&&◌, min, not, Bool, List, [], ◌∷◌, ◌++◌}
use Rattle.std.specs.Prelude.{if◌then◌else◌}
use Rattle.st_core.specs.declared.types.Event.{Event}
use Rattle.st_core.specs.Run.{Stream}
use Rattle.st_pair.specs.Pairing.{is_send}
use Rattle.st_pair.specs.Places.{is_stamp}
use Rattle.st_plan.specs.Marks.{Marked}
use Rattle.lack_needs.specs.declared.flaws.Left.{Left}
use Rattle.lack_needs.specs.Flaws.{left_by}

-- n, up to the greatest number of 64 bits
abbrev pub up_to_64_bits : ℕ → ℕ
up_to_64_bits n = min n (2 ^ 64 - 1)

-- the number of counts missing between what events leave and the count of a send or print e
abbrev pub missing_before : Left → Event → ℕ
missing_before left e = if is_stamp e then e.serial.this - 1 - left.greatest else 0

-- n and the number of counts missing before each event, given those before
abbrev pub missing_from : ℕ → List Event → List Event → ℕ
missing_from n before [] = n
missing_from n before (e ∷ es) =
    missing_from (up_to_64_bits (n + missing_before (left_by before) e)) (before ++ e ∷ []) es

-- n and the number of counts missing before all events of the streams
abbrev pub missing_in : ℕ → List Stream → ℕ
missing_in n [] = n
missing_in n (x ∷ rest) = missing_in (up_to_64_bits (n + missing_from 0 [] x.events)) rest

-- a send that isn't told
abbrev pub is_untold_send : Marked → Bool
is_untold_send m = is_send m.event && not m.told

-- the number of counts missing before the untold sends at the end, after one more event
abbrev pub missing_with : ℕ → Left → Marked → ℕ
missing_with n left m =
    if is_untold_send m then up_to_64_bits (n + missing_before left m.event) else 0

-- the number of counts missing before the untold sends at the end, after all events
abbrev pub missing_at_end : ℕ → List Event → List Marked → ℕ
missing_at_end n before [] = n
missing_at_end n before (m ∷ ms) =
    missing_at_end (missing_with n (left_by before) m) (before ++ m.event ∷ []) ms
