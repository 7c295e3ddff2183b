-- The text of a report, the text of a chart, and how writing a chart ends. `Words` has what both
-- texts share, and `Room` how many bytes the parts of a line take in a buffer.
pub mod Words
pub mod Report
pub mod Chart
pub mod Answer
pub mod Room
-- How the crate makes both texts: an item and a lane at a time, on a page.
pub mod Parts
pub mod Sheet
pub mod Page
