-- The definitions of public contracts: which streams the auditor explains, by its reasons against
-- an item and the counts along the order; which of their events are told; which streams are full;
-- and, in `Build`, the acts that are built for an item.
pub mod Marks
pub mod Plain
pub mod Full
pub mod Reasons
pub mod Moves
pub mod Build
