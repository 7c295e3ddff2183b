-- The lemmas.
pub mod Backs
pub mod PassedReceives
pub mod Weights
pub mod Labelled
mod Cases
