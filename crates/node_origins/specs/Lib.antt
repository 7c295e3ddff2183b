-- The definitions: how the walk's result stands for a set of origins, where the origins of a stamp
-- come from, and runs with such origins.
pub mod Summary
pub mod Sources
pub mod Runs
-- For the parts alone: what the tables keep.
pub mod Tables
