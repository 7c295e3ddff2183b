-- The lemmas; upper crates may cite those in `ForCallers`.
pub mod Lists
pub mod ListedEvents
pub mod SingleReceives
pub mod Keys
pub mod DistinctItems
pub mod RisingKeys
pub mod OneOrder
pub mod Turns
pub mod Insertion
pub mod Merges
pub mod RowKeys
pub mod PassedRows
pub mod FirstGroups
pub mod Groups
mod Cases
pub mod ForCallers
