-- The counts that the events of a process lead to, in each reading of its stamps.
use Rattle.std.specs.Prelude.{◌≡◌, ℕ, ◌+◌, ◌^◌, ◌≤◌, max, ◌==◌, ◌&&◌, Bool, false, List, [], ◌∷◌}
use Rattle.std.specs.Prelude.{◌++◌, map, flat_map, if◌then◌else◌}
use Rattle.std.specs.List.{AllByRecursion}
use Rattle.st_core.specs.declared.types.Kind.TheVariants as kind
use Rattle.st_core.specs.Event.{kind_eq}
use Rattle.node_machine.specs.Counts.{answer_count, next_clock, stamp_count, serial_count}
use Rattle.node_machine.specs.Node.{Seen}
pub use Rattle.node_machine.specs.declared.types.Reading.{Reading}

abbrev pub is_receipt : Seen → Bool
is_receipt e = kind_eq e.kind kind.Receive

-- LAST

-- the last that a receive leaves: its count, or what an answer makes of its count
abbrev pub count_taken : Seen → ℕ
count_taken e = if e.answer then serial_count (answer_count e.serial.this) else e.serial.this

-- the last after an event: what a receive leaves, or a stamp's prev
abbrev pub last_by : Seen → ℕ
last_by e = if is_receipt e then count_taken e else e.serial.prev

-- the last after events, from the given last, if no token is put back after the last stamp
abbrev pub last_behind : ℕ → List Seen → ℕ
last_behind last [] = last
last_behind last (e ∷ es) = last_behind (last_by e) es

-- CLOCK

-- the clock after a receive: the greater of the clock and the receive's count, unsigned, or what
-- an answer brings
abbrev pub clock_by : Seen → ℕ → ℕ
clock_by e clock = if e.answer then answer_count e.serial.this else max clock e.serial.this

-- the clock after several receives
abbrev pub clock_behind : ℕ → List Seen → ℕ
clock_behind clock [] = clock
clock_behind clock (e ∷ es) = clock_behind (clock_by e clock) es

-- whether the stamp goes on from the counts
abbrev pub is_next : ℕ → ℕ → Seen → Bool
is_next clock last e = e.serial.this == stamp_count clock && e.serial.prev == last

-- the clock after a stamp, if a token was put back after the stamp before it and no answer came
-- after that: the clock before the stamp had 60 bits, so only the greatest of them leads to 2^60,
-- which a serial shows as 0
abbrev pub clock_put_back : Seen → ℕ
clock_put_back e = if e.serial.this == 0 then 2 ^ 60 else e.serial.this

-- A serial hides the upper four bits of the clock, and these depend on where tokens were put back:
-- a stamp goes on from the clock before it, with these bits, or a token was put back after the
-- stamp before it, and brought none. So events can have several readings.

-- a reading with a receive more, with a stamp that goes on, or with one after a put-back
abbrev pub taking : Seen → Reading → Reading
taking e r = record r { clock = clock_by e r.clock }

abbrev pub going_on : Reading → Reading
going_on r = record r { clock = next_clock r.clock }

abbrev pub put_back_before : Seen → Reading → Reading
put_back_before e r = record { clock = clock_put_back e; put_backs = r.put_backs + 1 }

-- the readings with a stamp more, by the last before it
abbrev pub stamp_readings : ℕ → Seen → Reading → List Reading
stamp_readings last e r =
    (if is_next r.clock last e then going_on r ∷ [] else []) ++ put_back_before e r ∷ []

-- the readings with an event more
abbrev pub readings_by : Seen → ℕ → List Reading → List Reading
readings_by e last rs =
    if is_receipt e then map (taking e) rs
    else flat_map (stamp_readings last e) rs

abbrev pub readings_from : ℕ → List Seen → List Reading → List Reading
readings_from last [] rs = rs
readings_from last (e ∷ es) rs = readings_from (last_by e) es (readings_by e last rs)

-- the readings of a process's events, from zero counts
abbrev pub readings : List Seen → List Reading
readings es = readings_from 0 es (record { clock = 0; put_backs = 0 } ∷ [])

-- each reading of the events has at least n put-backs
abbrev pub NeedsAtLeast : List Seen → ℕ → Type 0
NeedsAtLeast es n = AllByRecursion (λ r. n ≤ r.put_backs) (readings es)

-- in no reading of the events does the stamp e go on from the counts after them
abbrev pub NeedsPutBack : List Seen → Seen → Type 0
NeedsPutBack es e =
    AllByRecursion (λ r. is_next r.clock (last_behind 0 es) e ≡ false) (readings es)
