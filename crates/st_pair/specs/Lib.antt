-- Which send each reported receive took, and why streams cannot hang together. Public contracts
-- cite these five.
pub mod Places
pub mod Pairing
pub mod Final
pub mod Links
pub mod Laws
-- Which events are listed, where they are and what they pair with.
pub mod Rows
-- Only the crate's own parts cite these.
pub mod Tables
pub mod Rules
