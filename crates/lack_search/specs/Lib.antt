-- For the parts alone, but for `TellsStreams` in `Assembly`, which says what a candidate tells.
pub mod Sends
pub mod Unlisted
pub mod Walk
pub mod Asks
pub mod MergedEvents
pub mod LostMessages
pub mod Senders
pub mod Inventions
pub mod Positions
pub mod Links
pub mod Assembly
