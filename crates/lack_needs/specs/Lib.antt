-- The definitions of public contracts: what a completion is, and why it adds an event; what may be
-- wrong with an event; what happened in every run, and which events show it.
pub mod Additions
pub mod Completions
pub mod Flaws
pub mod AllRuns
pub mod Losses
-- For the parts alone: the place of an event of which a test holds, all counts in a row, stamps
-- with prev 0 that can't begin a trace, and hidden sources.
pub mod Places
pub mod Counts
pub mod Unfounded
pub mod Hidden
