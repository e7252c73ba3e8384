-- Lemmas on a script's lines on the block store: what each writes and prints, and whole scripts.
-- The crate's functions cite them.
pub mod Writes
pub mod Operations
pub mod RecordNames
pub mod CallLines
pub mod OtherLines
pub mod ScriptLines
pub mod LineTexts
