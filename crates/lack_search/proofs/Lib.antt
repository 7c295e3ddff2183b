-- The lemmas on what a candidate tells, and on lists.
pub mod Telling
pub mod Lists
