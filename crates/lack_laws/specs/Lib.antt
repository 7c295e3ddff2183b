-- The definitions of public contracts on runs of the listed processes alone.
pub mod Wholes
pub mod Completed
pub mod Needs
pub mod Local
pub mod Renumbering
pub mod Reasons
-- The definitions of public contracts on runs with processes that a trace doesn't list.
pub mod Silent
pub mod OpenReasons
