-- The results of a world's public calls.
pub mod World
-- For this crate's own proofs: the rows of a world as one state, and its processes by node.
pub mod Rows
pub mod Nodes
