-- The definitions of public contracts: pieces, the reasons in them, and verdicts.
pub mod Pieces
pub mod Reasons
pub mod Verdicts
-- For the parts alone: the first reason of one kind, and the lowest counts with another prev than
-- 0.
pub mod Firsts
pub mod Lowest
