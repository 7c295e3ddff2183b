-- The lemmas that proofs of the crates above may cite: on the moves along an order, acts of one
-- process's own, what the moves say of the machine, each move of settled streams, the acts before
-- a stamp, and full streams.

-- ---- the moves along an order
pub use Rattle.st_plan.proofs.EarlierMoves.{take_more, moves_append, moves_by, one_move}
pub use Rattle.st_plan.proofs.EarlierMoves.{earlier_more, order_there, hidden_clock, IsAt, IsThere}
pub use Rattle.st_plan.proofs.OrderedMoves.{item_is}
-- ---- acts as steps of the machine
pub use Rattle.st_plan.proofs.OwnActs.{run_append, state_append, lifted, stream_silent, Silent}
pub use Rattle.st_plan.proofs.Receives.{pick_at}
-- ---- what the moves say of the machine, from the first acts on
pub use Rattle.st_plan.proofs.KeptState.{caused_if, IsKept}
pub use Rattle.st_plan.proofs.Tracers.{opens, IsOpened}
pub use Rattle.st_plan.proofs.BuiltActs.{stream_append}
-- ---- where a test holds of a move, and what holds at each move of settled streams
pub use Rattle.st_plan.proofs.FreeMoves.{holds_here, holds_not, reverse_more}
pub use Rattle.st_plan.proofs.SettledStreams.{goes_on, in_turn_at, caused_at, clock_at}
pub use Rattle.st_plan.proofs.SettledStreams.{tells_told_events, told_pids, tells_only}
pub use Rattle.st_plan.proofs.PlainStreams.{only_whole}
pub use Rattle.st_plan.proofs.Wholes.{completion_is_shown}
-- ---- what holds of all acts before a stamp; none of the acts is a reset
pub use Rattle.st_plan.proofs.OneTrace.{ready_all, acts_none, append_none, tracers_none}
-- ---- the acts before a stamp
pub use Rattle.st_plan.proofs.Readiness.{is_alone, is_ready, IsQuiet, QuietRun}
-- ---- runs that report everything, and full streams
pub use Rattle.st_plan.proofs.FullRuns.{run_full}
pub use Rattle.st_plan.proofs.Turns.{After, at_each, event_move, leaves, next_event}
pub use Rattle.st_plan.proofs.Plainness.{full_plain, full_streams_plain, greatest_has}
-- ---- listed processes and their events
pub use Rattle.st_plan.proofs.ProperEvents.{named}
pub use Rattle.st_plan.proofs.NextMoves.{AreWithin}
