-- The definitions of public contracts: the results, what is kept while acts pass, and the laws.
pub mod Answers
pub mod Progress
pub mod Laws
-- For the parts alone: what the replay keeps on the way.
pub mod Recorded
