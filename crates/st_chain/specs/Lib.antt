-- The cause of each event, and the events of one label. Public contracts cite these two.
pub mod Causes
pub mod Labels
-- For `src/chains.rt` and `src/receives.rt` alone.
pub mod Kept
