-- The lemmas that proofs of the crates above may cite: what a verdict shows of its run, that few
-- acts have a run, and that a comparison keeps a count and tags for each process.
pub use Rattle.st_check.proofs.Verdicts.{verdict_follows, verdict_pairs}
pub use Rattle.st_check.proofs.FewActs.{few_acts_run}
pub use Rattle.st_check.proofs.NextActs.{passed_even}
