-- The states of the reader's parts. No promise of a public contract rests on them: `WasFed` names
-- them, but who uses a feed needn't know what it keeps. Each file of the code that needs
-- definitions has a module here.
pub mod Words
pub mod Digits
pub mod Remote
pub mod Counts
pub mod Builder
pub mod Finish
pub mod Cutter
pub mod CutterState
