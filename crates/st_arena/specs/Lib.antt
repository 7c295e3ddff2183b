-- A queue whose items have slots, for the proofs of callers.
pub mod Queue
-- What public contracts cite: lists as contracts see them, and what closures return for their
-- items.
pub mod Arena
pub mod Calls
-- For this crate's own proofs: the marks in blocks, and the tree that counts them.
pub mod Blocks
pub mod Tree
-- For this crate's own proofs: how a list lies in its nodes.
pub mod Chain
