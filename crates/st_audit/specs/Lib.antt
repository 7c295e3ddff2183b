-- The definitions of public contracts: findings, over the reasons of `st_plan`, and the
-- construction that leads to them.
pub mod Findings
pub mod Construction
-- Only the crate's own parts cite this: the state of `src/construction.rt`.
pub mod Progress
