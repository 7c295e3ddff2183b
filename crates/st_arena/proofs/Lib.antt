-- The lemmas; `ForCallers` has those that proofs of the crates above may cite.
mod TreeLemmas
mod BlockLemmas
pub mod RankLemmas
pub mod QueueLemmas
pub mod ForCallers
-- The lemmas of this crate, in an order in which each file cites earlier ones: on one chain and
-- all lists, on what closures return, on each kind of change, and on the list that a call names.
-- The folders prove the functions of src/.
mod ChainLemmas
mod ArenaLemmas
mod CallLemmas
mod AppendLemmas
mod UnlinkLemmas
mod ChangeLemmas
mod LadderLemmas
mod ListLemmas
