-- The definitions of public contracts.
pub mod Acts
pub mod Verdict
pub mod Laws
-- For the parts alone: steps, the tables of processes, and the tables while acts pass.
pub mod Steps
pub mod Kept
pub mod Progress
