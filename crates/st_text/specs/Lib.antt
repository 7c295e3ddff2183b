-- A text, its fault, the results of reading and writing, and the laws: each promise of a public
-- contract rests on these modules alone.
pub mod Spelling
pub mod Range
pub mod Limits
pub mod Text
pub mod Contents
pub mod Parsing
pub mod Fault
pub mod Growth
pub mod Answer
pub mod Reads
pub mod Fed
pub mod Room
pub mod Writing
pub mod Laws
-- For the reader's parts alone.
pub mod Parts
