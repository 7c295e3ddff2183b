-- The lemmas that proofs of the crates above may cite: what an accepting pairing says of each
-- event, what a refusing one says of all acts, what a rule gives first, and where the stream of a
-- process is. They hold by the definitions alone.

-- ---- what `refusal streams ≡ None` says of each event
pub use Rattle.st_pair.proofs.AcceptedEvents.{Rule, IsPaired, paired, event_none, serial_rises}
pub use Rattle.st_pair.proofs.AcceptedEvents.{once_place, from_none, got_rule, cond_none}
pub use Rattle.st_pair.proofs.Converse.{stamp_counts_rise, stamp_once, source_by, source_from}
pub use Rattle.st_pair.proofs.Converse.{source_from_receiver, got_says, receiver_from_source}
pub use Rattle.st_pair.proofs.Converse.{SaysReceive, send_stamps, some_unless}
pub use Rattle.st_pair.proofs.Stamps.{stamp_at, receive_unstamped}
pub use Rattle.st_pair.proofs.FinalReasons.{receive_kind, stamp_not_received}
pub use Rattle.st_pair.proofs.OwnStamps.{own_rule}
-- ---- a send and its receive
pub use Rattle.st_pair.proofs.Agreement.{IsAgreed, agreed, agrees_if}
-- ---- what `refusal streams ≡ Some f` says of all acts, and acts that show streams of pairing
pub use Rattle.st_pair.proofs.FinalReasons.{AreShown, IsTaken, taken, refusal_rules_out}
pub use Rattle.st_pair.proofs.FinalReasons.{refused_never_shown}
pub use Rattle.st_pair.proofs.Reasons.{place_of, reason_at}
pub use Rattle.st_pair.proofs.FullyShown.{shown_accepted, listed_if, shown_events, from_listed}
pub use Rattle.st_pair.proofs.FullyShown.{send_shown}
-- ---- what a rule gives first, in one stream and in all
pub use Rattle.st_pair.proofs.Firsts.{or_none, or_assoc, first_from-at, first_from-end, first-at}
pub use Rattle.st_pair.proofs.Firsts.{first-loop}
pub use Rattle.st_pair.proofs.Converse.{IsGiven, given_from, given_at}
pub use Rattle.st_pair.proofs.Leasts.{first_least}
-- ---- streams and their pids
pub use Rattle.st_pair.proofs.Firsts.{IsAt, is_at, events_in}
pub use Rattle.std.proofs.lemmas.Option.{slice_get-get_or as at_get_or}
pub use Rattle.st_pair.proofs.Stamps.{blank}
pub use Rattle.st_pair.proofs.Linkage.{take_map}
pub use Rattle.st_pair.proofs.StreamTables.{process_passed, process_read, missing_events}
pub use Rattle.st_pair.proofs.StreamTables.{stream_here, drop_next, one_place}
pub use Rattle.st_pair.proofs.Marks.{set_same, set_apart}
-- ---- the order of pids
pub use Rattle.st_pair.proofs.PidOrder.{pid_total}
