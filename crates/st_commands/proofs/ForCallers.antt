-- The lemmas that proofs of the crates above may cite: which output was delivered, from what the
-- sink says of its text; and which output is owed, from what the source says of the bytes that it
-- gave, whatever the command makes of bytes.
pub use Rattle.st_commands.proofs.Deliveries.{delivers, says, tells_as, tells_fault, WasRead}
pub use Rattle.st_commands.proofs.Deliveries.{performs, was_read}
pub use Rattle.st_commands.proofs.Meanings.{fault_status_high}
pub use Rattle.st_commands.proofs.ChartMeanings.{unfit_status, unpaired_means}
