-- What public contracts cite: the index of a queue, and its keys.
pub mod Index
pub mod Keys
-- What public contracts cite: mailboxes as lists of messages, and the actor's part of an act.
pub mod Mail
pub mod Actor
-- For this crate's own proofs: slots, and the keys that they have.
pub mod KeyedSlots
pub mod Slots
-- For this crate's own proofs: how mailboxes keep what was wiped, and how messages are found.
pub mod Wiped
pub mod Found
