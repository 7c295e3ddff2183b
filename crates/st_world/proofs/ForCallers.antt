-- The lemma that proofs of the crates above may cite: two functions that agree map a list alike.
pub use Rattle.st_world.proofs.States.{map_agree}
