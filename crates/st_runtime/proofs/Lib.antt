-- The lemmas for the step calls and the calls of a system.
pub mod LentLemmas
pub mod LogLemmas
pub mod PartLemmas
pub mod SendLemmas
pub mod StepLemmas
pub mod ActLemmas
pub mod HeldLemmas
pub mod PidLemmas
-- That what the threads did is one run.
pub mod Legal
pub mod Members
pub mod Runs
pub mod Walks
pub mod Shown
pub mod Collecting
pub mod Searching
pub mod Wholeness
pub mod Passing
pub mod Seated
pub mod JoinLemmas
pub mod Scripted
-- The endings of workers.
pub mod Workers
pub mod Driving
-- Worked cases.
mod Cases
