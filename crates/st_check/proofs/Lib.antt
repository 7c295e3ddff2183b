-- The lemmas; what upper crates may cite is in `ForCallers`.
pub mod OneMoreAct
pub mod Places
pub mod Fronts
pub mod PassedActs
pub mod Verdicts
pub mod TagLists
pub mod NextActs
pub mod AllActs
pub mod Records
pub mod FewActs
pub mod ForCallers
