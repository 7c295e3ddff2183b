-- The definitions: how the hashers of a table begin.
pub mod Tables
