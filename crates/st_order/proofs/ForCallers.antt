-- The lemmas that proofs of the crates above may cite: on keys and what comes before what, on the
-- order as a list, and on what items there are. They hold by the definitions alone; nothing here
-- speaks of how the code does it.

-- ---- keys, and what comes before what
pub use Rattle.st_order.proofs.Keys.{comes_before_is, hidden_receives}
pub use Rattle.st_order.proofs.DistinctItems.{index_of}
-- ---- the one order
pub use Rattle.st_order.proofs.OneOrder.{one_order, Among, among_all, members}
pub use Rattle.st_order.proofs.Insertion.{an_order}
-- ---- the events of a process in turn
pub use Rattle.st_order.proofs.Turns.{keeps_turn, tallest_grows, tallest_has}
pub use Rattle.st_order.proofs.RowKeys.{greatest_more}
pub use Rattle.st_order.proofs.Lists.{all_append, all_left, all_right, all_take}
-- ---- the events of a listed process
pub use Rattle.st_order.proofs.ListedEvents.{drop_front, AreFound, all_found}
