-- The lemmas that proofs of the crates above may cite: truth tables, and lemmas on pids and their
-- order, on a step and a run in parts, on what every run keeps, and on the numbers of sends that
-- lie in a queue. They hold by the definitions alone; nothing here speaks of how the code does it.

-- ---- truth tables
pub use Rattle.st_core.proofs.Bools.{or_true, or_false, not_true, not_false, right_of, both_of}
pub use Rattle.st_core.proofs.Bools.{both_true, and_false, or_right, false_if, some_of, some_if}
-- ---- the order of numbers
pub use Rattle.st_core.proofs.Pids.{is_eq-Equal, is_lt-true, nat_cmp-Equal}
pub use Rattle.st_core.proofs.Pids.{nat_cmp-same, nat_cmp-below, below_or_same, eqb-swap}
-- ---- pids, and the streams of each
pub use Rattle.st_core.proofs.Pids.{pid_eq-true, pid_eq-same, pid_eq-swap, pid_cmp-same}
pub use Rattle.st_core.proofs.Pids.{pid_cmp-Equal, IsBelow-trans, IsBelow-apart, not_below_itself}
pub use Rattle.st_core.proofs.Pids.{IsRising-push, missing_from_search, all_at}
pub use Rattle.st_core.proofs.Pids.{pid_eq-true as pid_same, pid_eq-same as pid_eq-refl}
pub use Rattle.st_core.proofs.RisingPids.{rising_at}
pub use Rattle.st_core.proofs.Collections.{above_apart, is_among-found, is_among-missing}
pub use Rattle.st_core.proofs.Collections.{place_within, own_push}
pub use Rattle.st_core.proofs.Collections.{with_event_pid, all_apart, position-none}
pub use Rattle.st_core.proofs.Leastness.{unlisted_is_least}
-- ---- events
pub use Rattle.st_core.proofs.Events.{to_eq-true, to_eq-same, event_eq-true, event_eq-same}
-- ---- a step and a run, in parts
pub use Rattle.st_core.proofs.Others.{process_pid, process-map, mapped, Stepped, step_parts}
pub use Rattle.st_core.proofs.Others.{run_parts, process_after, leaves_others}
pub use Rattle.st_core.proofs.Steps.{reached_pid, changed_pid, changed_untouched, step_done}
pub use Rattle.st_core.proofs.Steps.{step_no_actor, step_no_receiver}
pub use Rattle.st_core.proofs.Runs.{one_verdict, run_from-take, run_from-more, run_from-one}
pub use Rattle.st_core.proofs.Zips.{AllZip_length, AllZip_at, drop_first, drop_rest, remove_past}
-- ---- what every run keeps
pub use Rattle.st_core.proofs.Sound.{All_at, run_sound, stamp_any_sound, process_holds, pick_found}
pub use Rattle.st_core.proofs.Sound.{step_sound, zero_sound}
pub use Rattle.st_core.proofs.Names.{run_named, zero_pids, process_among}
pub use Rattle.st_core.proofs.Following.{receives_follow}
pub use Rattle.st_core.proofs.Paired.{receives_are_paired}
pub use Rattle.st_core.proofs.Reports.{event_reported, reported_in_order, report_told}
pub use Rattle.st_core.proofs.Clocks.{reported_sends_agree}
-- ---- streams that acts show
pub use Rattle.st_core.proofs.ShownStreams.{lists_among, names_among_listed, AreReports, are_own}
pub use Rattle.st_core.proofs.ShownStreams.{unlisted_none, shown_are_streams}
-- ---- what every run without a reset keeps
pub use Rattle.st_core.proofs.Clocks.{reported_stamps_lift, followed_sends_lift, lifted_once}
pub use Rattle.st_core.proofs.Clocks.{lifted_later}
pub use Rattle.st_core.proofs.Once.{step_once, zero_once}
-- ---- what every run that reports all stamps and all receives of tokens keeps
pub use Rattle.st_core.proofs.FullReports.{tell_counts, have_sends, greatest_push, prev_push}
pub use Rattle.st_core.proofs.FullReports.{zero_found, local_found, local_in}
-- ---- the numbers of the sends in the queues
pub use Rattle.st_core.proofs.Tags.{no_tags}
pub use Rattle.st_core.proofs.Queues.{IsTag, AreTags, no_tags_are, receive_none, receive_some}
pub use Rattle.st_core.proofs.Queues.{tags_step}
