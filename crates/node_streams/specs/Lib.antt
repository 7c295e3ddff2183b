-- The definitions: the send that each receive took, an order of all events, and the runs that have
-- both, with examples.
pub mod Messages
pub mod Order
pub mod Runs
pub mod Example
-- For the parts alone: what the tables and the walk keep.
pub mod Tables
