mod PairLemmas
mod SlotLemmas
mod Searches
mod KeyLemmas
mod IndexLemmas
-- The lemmas; `ForCallers` has those that proofs of the crates above may cite.
mod Picks
mod Fits
mod Finders
mod Fronts
mod Boxes
pub mod ForCallers
