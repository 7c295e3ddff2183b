-- The lemmas on completions.
pub mod Kept
pub mod Leaving
pub mod ToldEvents
-- The lemmas on what streams need.
pub mod Flawed
pub mod Passed
pub mod Counted
pub mod Ranking
pub mod ZeroBehind
pub mod Noted
pub mod SilentPids
-- The lemmas on what happened in every run.
pub mod LostReceives
pub mod CertainLosses
pub mod AllRuns
-- Worked cases.
mod Cases
-- Lemmas that crates above may cite.
pub mod ForCallers
