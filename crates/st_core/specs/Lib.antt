-- The definitions, in the order in which they build on each other: from `Pid` to `Verdict` the
-- machine, its runs and what they show; then collected streams, the laws of every run, and byte
-- devices. Public contracts rest on them.
pub mod Pid
pub mod State
pub mod Stamp
pub mod Local
pub mod Pick
pub mod Event
pub mod Report
pub mod Step
pub mod Run
pub mod Pairs
pub mod Verdict
pub mod Streams
pub mod Laws
pub mod Device
pub mod Passed
pub mod Rows
-- The two lists in which `Draft` keeps its streams; no public contract cites them.
pub mod Collected
