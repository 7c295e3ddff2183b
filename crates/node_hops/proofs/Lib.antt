-- The lemmas on gifts, and on the events that a process reports before an act.
pub mod Fronts
pub mod Gifts
pub mod Runs
-- The lemmas on hops.
pub mod RowLemmas
pub mod Stamps
pub mod Messages
pub mod Claims
pub mod Ways
pub mod Trees
pub mod Children
-- The lemmas on the tables.
pub mod Starts
