-- The lemmas; upper crates cite only those of `ForCallers`.
pub mod ForCallers
pub mod CallLemmas
pub mod RowLemmas
