-- The lemmas.
pub mod CountValues
pub mod TableLemmas
pub mod Knowledge
pub mod Decisions
pub mod PutBacks
pub mod InRuns
-- what proofs of the crates above may cite
pub mod ForCallers
