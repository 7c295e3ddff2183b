-- The lemmas that proofs of the crates above may cite.

-- ---- streams, and what pairing says of them
pub use Rattle.lack_laws.proofs.Renumbering.{streams_with}
pub use Rattle.lack_laws.proofs.AcceptedStreams.{accepted_if, fit_together, FitTogether}
pub use Rattle.lack_laws.proofs.AcceptedStreams.{own_at, received_to, stamper}
-- ---- whole streams, and reasons
pub use Rattle.lack_laws.proofs.ToldEvents.{event_of_mark, events, events_all, events_told}
pub use Rattle.lack_laws.proofs.ToldEvents.{go_on, told_at, GoOn}
pub use Rattle.lack_laws.proofs.FinalZeros.{in_all, tells}
pub use Rattle.lack_laws.proofs.NeedlessStreams.{above_if}
-- ---- items of lists
pub use Rattle.lack_laws.proofs.InsertedEvents.{all_from}
pub use Rattle.lack_laws.proofs.FinalZeros.{taken_at}
pub use Rattle.lack_laws.proofs.SilentSenders.{at_front, at_seam}
-- ---- lists of counts that rise
pub use Rattle.lack_laws.proofs.Ranks.{AllAbove, Climbs, IsIn, above_in, counts_climb, insert_by}
pub use Rattle.lack_laws.proofs.Ranks.{insert_has, insert_keeps}
-- ---- streams with further processes that report nothing
pub use Rattle.lack_laws.proofs.SilentStreams.{silent_events, silent_sound, silent_total}
pub use Rattle.lack_laws.proofs.SilentStreams.{unlisted_with}
