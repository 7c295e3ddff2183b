-- The lemmas: reasons have one order, a reason of the streams is one of a piece, a walk over a
-- piece finds the first, and the verdict is the one of `complete`.
pub mod Order
pub mod Readings
pub mod Verdicts
pub mod Walks
pub mod Candidates
pub mod ReceivedCounts
pub mod Founding
pub mod Named
mod Cases
