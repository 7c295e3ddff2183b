-- The definitions: the gift behind a stamp, the events before it that show what it goes on from,
-- the hop back from an event with its premises, its claim about a run, the way back over hops, and
-- the tree of what follows. Public contracts cite these.
pub mod Gifts
pub mod Events
pub mod Hops
pub mod Claims
pub mod Way
pub mod Tree
-- For the parts alone: the tables of hops.
pub mod Kept
