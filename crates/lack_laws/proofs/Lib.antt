-- The lemmas; `ForCallers` has those that crates above may cite.
pub mod LoudActs
pub mod LoudRuns
pub mod RunCompletions
pub mod NeedlessStreams
pub mod AcceptedStreams
pub mod InsertedEvents
pub mod ToldEvents
pub mod Renumbering
pub mod Ranks
mod Cases
-- The lemmas on processes that a trace doesn't list; the laws in `src/open_world.rt` say the main
-- ones.
pub mod SilentStreams
pub mod FinalZeros
pub mod OpenStreams
pub mod HiddenSends
pub mod SilentSenders
pub mod OpenReasons
pub mod ForCallers
