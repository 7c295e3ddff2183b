-- The lemmas on ranks and on queues with slots that proofs of the crates above may cite. They
-- follow from the definitions alone, without the tree.

-- ---- ranks in one list of marks: they grow with the slot, and by one after each live slot
pub use Rattle.st_arena.proofs.RankLemmas.{rank-le, rank-live}
-- ---- after one mark is written
pub use Rattle.st_arena.proofs.RankLemmas.{rank_before_mark, rank_behind_mark}
-- ---- in new slots, the first of which are live
pub use Rattle.st_arena.proofs.RankLemmas.{new_live, new_mark_live, new_mark_dead, new_rank}
-- ---- a queue with slots
pub use Rattle.st_arena.proofs.QueueLemmas.{kept-get, kept-take, kept-put, kept-map_Some}
-- ---- slots and their ranks
pub use Rattle.st_arena.proofs.QueueLemmas.{ranks_room, rank-before, live-kept, marked_dead}
pub use Rattle.st_arena.proofs.QueueLemmas.{live_item, ranks-take, ranks-put, ranks-new}
pub use Rattle.st_arena.proofs.QueueLemmas.{selected_inside, selected_item, selected_take}
