-- The definitions of public contracts: the task that the words of a command line ask for, and what
-- each task owes.
pub mod Words
pub mod Command
-- For `check --node`.
pub mod NodeCheck
-- For `complete` and `renumber`.
pub mod Renumber
pub mod Complete
-- For `why`: the words of a line, the output, and its meaning.
pub mod WhyWords
pub mod Why
pub mod WhyMeaning
-- The line number of an event or an act.
pub mod LineNumbers
pub mod LineLaws
-- For the parts alone: the parts of commands, and the tables of lines.
pub mod Lines
pub mod Parts
pub mod WhyLines
pub mod WhyParts
pub mod KeptLines
