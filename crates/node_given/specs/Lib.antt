-- The definitions: the clocks and the tokens that the walk keeps, what it knows after events,
-- what it says of each event, and runs with such events.
pub mod Clocks
pub mod Tables
pub mod Walk
pub mod Runs
