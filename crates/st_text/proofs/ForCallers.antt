-- The lemmas that proofs of the crates above may cite: what a text and a fault exclude, and how
-- writing goes on through a buffer. Nothing here speaks of the reader's parts.

-- ---- texts and faults
pub use Rattle.st_text.proofs.OneBundle.{text_one}
pub use Rattle.st_text.proofs.GoodText.{text_sound}
pub use Rattle.st_text.proofs.FaultlessText.{readable}
pub use Rattle.st_text.proofs.Newlines.{fault_too_large}
-- ---- spellings
pub use Rattle.st_text.proofs.Spellings.{front_some, line_some}
-- ---- writing through a buffer
pub use Rattle.st_text.proofs.Puts.{finishes, part_longer, goes_then, goes_buffer, goes_still}
pub use Rattle.st_text.proofs.Puts.{then_on, on_err, part_then, room_then, no_room, on_images}
pub use Rattle.st_text.proofs.Puts.{one_more, one_failed, all_done}
