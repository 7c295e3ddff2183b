-- The definition of the public contract: acts that have a run.
pub mod Acts
-- For the parts alone: the demands of a stamp on its token; the flags that most events want;
-- missing counts; told events that stay; untold events that are put in; and the senders and
-- receivers of messages.
pub mod Demands
pub mod Missing
pub mod Tallies
pub mod Told
pub mod Insertions
pub mod Gaps
pub mod Offers
pub mod Strays
pub mod Homes
