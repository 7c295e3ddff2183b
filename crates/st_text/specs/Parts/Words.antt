-- How a reader of the front of some bytes says that it does what `Parsing` says: in `words.rt`,
-- `number.rt`, `events.rt`, `acts.rt` and `line.rt`.
use Rattle.std.specs.Prelude.{◌≡◌, Option, Some, None}

-- the function's result, seen through view, is what `Parsing` reads
abbrev pub Gives : {X Y : Type 0} → (X → Y) → Option X → Option Y → Type 0
Gives view None read = read ≡ None
Gives view (Some x) read = read ≡ Some (view x)
