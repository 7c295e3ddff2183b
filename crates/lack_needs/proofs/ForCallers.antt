-- The lemmas that proofs of the crates above may cite, on what events leave, and on the told
-- events of whole streams.

pub use Rattle.lack_needs.proofs.Passed.{more_passed, one_place}
pub use Rattle.lack_needs.proofs.Leaving.{left_more}
pub use Rattle.lack_needs.proofs.Ranking.{added_last}
pub use Rattle.lack_needs.proofs.Kept.{all_kept, mark_read, marked_kept}
pub use Rattle.lack_needs.proofs.ToldEvents.{all_told, pids_length, told_end, told_more}
pub use Rattle.lack_needs.proofs.ToldEvents.{untold_more, IsToldAt}
