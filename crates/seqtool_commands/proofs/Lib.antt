-- The lemmas on lines of a text.
pub mod LineFirsts
pub mod LineTexts
-- The lemmas on `check --node`.
pub mod NodeChecks
-- The lemmas on `complete` and `renumber`.
pub mod Deliveries
pub mod Rooms
pub mod Completions
pub mod Meanings
pub mod RenumberMeanings
-- The lemmas on `why`.
pub mod WhyAnswers
pub mod WhyDeliveries
pub mod WhyMeanings
mod Cases
