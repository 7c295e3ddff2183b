-- A log and a list of calls, as contracts see them.
pub mod Entries
pub mod CallList
-- How the crate keeps calls and entries. Public contracts need only `call_at`.
pub mod Briefs
pub mod TracedActs
pub mod Rows
