-- What an entry does to a process, and what a log gives it; processes under locks, seats and acts
-- as contracts see them; and the outcome of a system that ran: pieces that fit, the one run that
-- they tell of, and scripts that are driven.
pub mod Logs
pub mod Pcb
pub mod Lent
pub mod Seat
pub mod System
pub mod Pieces
pub mod Joined
pub mod Driven
-- How the crate steps, locks, joins and drives.
pub mod Inside
pub mod Locked
pub mod Walk
pub mod Joining
pub mod Working
