-- The lemmas; crates above cite none of them.
pub mod Answered
pub mod Bounded
pub mod Judged
pub mod Linked
pub mod NeededAdditions
pub mod Reasons
