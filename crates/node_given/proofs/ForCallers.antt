-- The lemmas that proofs of the crates above may cite. They follow from the definitions alone.

-- ---- lists and results
pub use Rattle.node_given.proofs.Decisions.{blank, length_more, on_ok, pushed_at, taken_more}
-- ---- counts of a walk
pub use Rattle.node_given.proofs.CountValues.{count_is, serial_is}
pub use Rattle.node_given.proofs.Decisions.{fits_at, tokens_fit}
-- ---- what an event shows
pub use Rattle.node_given.proofs.Knowledge.{fit_push, shown_stamp, shown_taken, swap, turn}
pub use Rattle.node_given.proofs.Decisions.{zero_held}
-- ---- a token put back before a receive
pub use Rattle.node_given.proofs.Decisions.{before_receive, lowered_clock, lowered_last}
