-- The definitions of public contracts, from the outputs to their meaning.
pub mod Output
pub mod Checked
pub mod Audited
pub mod Replayed
pub mod Charted
pub mod Recorded
pub mod Words
pub mod Command
pub mod Meaning
pub mod Laws
-- Only for the contracts of the functions that a command is made of.
pub mod Lines
pub mod Parts
