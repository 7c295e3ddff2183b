-- The definitions: counts, the standard node, the premises on its runs, the counts that events
-- lead to, what gives a stamp, and the origins of its token.
pub mod Counts
pub mod Node
pub mod Premises
pub mod Readings
pub mod Given
pub mod Ways
pub mod Origins
pub mod ByMessages
pub mod Example
