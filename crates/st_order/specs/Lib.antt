-- The items of streams, their one order, their groups by label, and their turn in each process.
-- Public contracts cite these four.
pub mod Items
pub mod Order
pub mod Labels
pub mod Turn
-- Only the contracts of `src/row.rt`, `src/sorting.rt` and `src/labels.rt` cite these three.
pub mod Row
pub mod Sorting
pub mod Groups
