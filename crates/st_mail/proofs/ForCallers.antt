-- The lemmas that proofs of the crates above may cite: a process can meet the tokens in its queue,
-- and still can after a change.

pub use Rattle.st_mail.proofs.Fits.{pick_fits, left_fits, push_fits}
