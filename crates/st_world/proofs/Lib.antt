-- The lemmas; `ForCallers` has those that proofs of the crates above may cite.
mod Pids
mod States
pub mod ForCallers
mod RowLemmas
mod Groups
mod Wipes
mod Making
mod Marks
mod Kept
mod Acting
mod NodeActs
mod Once
mod Steps
mod Answering
mod Reading
