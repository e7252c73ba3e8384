-- Lemmas on a script's lines on a shared zone, and on their texts. The crate's functions cite
-- them.
pub mod Steps
pub mod Pieces
pub mod ScriptLines
pub mod Done
