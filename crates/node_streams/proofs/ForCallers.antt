-- The lemmas that proofs of the crates above may cite. They follow from the definitions alone.

-- ---- the other ends of messages
pub use Rattle.node_streams.proofs.OtherEnds.{IsNth, IsReceiveOf, IsSendOf, nth_is, partner_at}
pub use Rattle.node_streams.proofs.OtherEnds.{received_sent, sent_received}
-- ---- what a function has of each event and of those before it
pub use Rattle.node_streams.proofs.EachEvents.{each_at, each_step}
pub use Rattle.node_streams.proofs.Takes.{taken_among}
pub use Rattle.node_streams.proofs.Unsents.{length_taken, none_left}
-- ---- contents, and events that tell of them
pub use Rattle.node_streams.proofs.Counting.{content_itself, content_same, count_more, taken_more}
pub use Rattle.node_streams.proofs.Owners.{kind_same, own_event, owner_is, receive_to}
pub use Rattle.node_streams.proofs.SentOrders.{nth_within}
-- ---- the events of a listed process in a run
pub use Rattle.node_streams.proofs.InRuns.{is_content, listed_events}
