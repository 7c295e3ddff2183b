-- The events before a send or print that show what it goes on from.
use Rattle.std.specs.Prelude.{ℕ, ◌==◌, ◌&&◌, zero, suc, Bool, true, false, not, List, Option, Some}
use Rattle.std.specs.Prelude.{None, if◌then◌else◌, slice_get}
use Rattle.st_core.specs.declared.types.Kind.TheVariants as kind
use Rattle.st_core.specs.declared.types.Event.{Event}

abbrev pub is_take : Event → Bool
is_take e = elim e.kind [ kind.Send ↦ false | kind.Receive ↦ true | kind.Print ↦ false ]

-- whether an event is a send or print with the prev
abbrev pub is_in_row : ℕ → Event → Bool
is_in_row prev e = not (is_take e) && e.serial.prev == prev

-- the index at which the row up to index i begins: from there to i there are only sends and prints
-- with the prev
abbrev pub row_first : ℕ → List Event → ℕ → ℕ
row_first prev es zero = 0
row_first prev es (suc i) = elim (slice_get es i) [
  | None ↦ suc i
  | Some e ↦ if is_in_row prev e then row_first prev es i else suc i
]

-- the index before the given one, if a receive with the count is there
abbrev pub take_before : ℕ → List Event → ℕ → Option ℕ
take_before this es zero = None
take_before this es (suc j) = elim (slice_get es j) [
  | None ↦ None
  | Some e ↦ if is_take e && e.serial.this == this then Some j else None
]
