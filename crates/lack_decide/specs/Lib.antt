-- The definitions of public contracts: the meaning of results, and the number of acts that surely
-- suffice. `lack_needs` defines what a completion is.
pub mod Answers
pub mod Bounds
-- For the parts alone: reasons as they are found; what the judge asks of each event, and of each
-- one that was added; and the last event whose count isn't lower.
pub mod Found
pub mod Links
pub mod Needed
pub mod Higher
