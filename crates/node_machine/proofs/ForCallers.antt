-- The lemmas that proofs of the crates above may cite. They follow from the definitions alone.

-- ---- what gives a stamp
pub use Rattle.node_machine.proofs.Givens.{stamps_given}
pub use Rattle.node_machine.proofs.Decided.{given_tests, stamps_final, test_gives}
pub use Rattle.node_machine.proofs.Ways.{given_ways, ways_give}
pub use Rattle.node_machine.proofs.Lasts.{prevs_shown}
-- ---- put-backs
pub use Rattle.node_machine.proofs.Needs.{needs_put_back}
pub use Rattle.node_machine.proofs.NeedsAnyway.{needs_put_back_anyway}
pub use Rattle.node_machine.proofs.Places.{needs_met}
-- ---- origins
pub use Rattle.node_machine.proofs.Follows.{origins_can}
-- ---- counts, lists, readings and tokens, one event more
pub use Rattle.node_machine.proofs.Counts.{count_once, FitsSerial, max_either, next_of_zero}
pub use Rattle.node_machine.proofs.Counts.{serial_case}
pub use Rattle.node_machine.proofs.Lists.{all_append, all_of, among_back, among_front, among_parts}
pub use Rattle.node_machine.proofs.Lists.{item_behind}
pub use Rattle.node_machine.proofs.NeedsOfAll.{count_first}
pub use Rattle.node_machine.proofs.Readings.{next_parts, next_true, put_back_reads, some_reading}
pub use Rattle.node_machine.proofs.Readings.{stamp_reads, stamped_reads, take_reads, took_reads}
pub use Rattle.node_machine.proofs.Tokens.{clock_by_answer, clock_by_receive, clock_push}
pub use Rattle.node_machine.proofs.Tokens.{last_by_answer, last_by_receive, last_by_stamp}
pub use Rattle.node_machine.proofs.Tokens.{last_push, takes_parts, takes_true, tokens_more}
pub use Rattle.node_machine.proofs.Tokens.{tokens_new, tokens_parts}
pub use Rattle.node_machine.proofs.Ways.{AreTaken, carried_held, lasts_held, lower}
-- ---- queues and reports, by the step
pub use Rattle.node_machine.proofs.Steps.{node_process_after, node_run_parts, node_run_take}
pub use Rattle.node_machine.proofs.Steps.{node_step_parts, NodeStepped, print_at_either}
pub use Rattle.node_machine.proofs.Steps.{stamp_either}
pub use Rattle.node_machine.proofs.Queues.{alike_in, LastsFit, lasts_fit_then, queue_step}
pub use Rattle.node_machine.proofs.Queues.{report_own, takes_alike, zero_alike, zero_lasts_fit}
pub use Rattle.node_machine.proofs.Queues.{SentAlike, stamp_last}
-- ---- one process by the step
pub use Rattle.node_machine.proofs.Steps.{actor_found, actor_same, other_same, SameButTraced}
pub use Rattle.node_machine.proofs.Moves.{IsAnswered, IsStamp, IsTake, Moves, node_acted_moves}
