-- The lemmas on acts that have a run, on the events that stay told, and on events that are put in.
pub mod Running
pub mod Telling
pub mod Counting
pub mod Gathering
