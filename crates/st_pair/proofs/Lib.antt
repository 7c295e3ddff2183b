-- The lemmas; what upper crates may cite is in `ForCallers`.
pub mod PidOrder
pub mod Firsts
pub mod OwnStamps
pub mod Stamps
pub mod Linkage
pub mod StreamTables
pub mod Agreement
pub mod AcceptedEvents
pub mod Converse
pub mod Received
pub mod BackLinks
pub mod Marks
pub mod StampRows
pub mod Matches
pub mod Leasts
pub mod Reasons
pub mod FinalReasons
pub mod FullyShown
mod Listed
mod Cases
pub mod ForCallers
