-- Lemmas on records: listed, named, found, merged, moved, and their contents. The crate's
-- functions cite them.
pub mod Steps
pub mod Additive
pub mod Lengths
pub mod Merges
pub mod Texts
pub mod RecordFit
pub mod UnfitLogs
pub mod DumpNumbers
pub mod OwnDumpZone
pub mod Sources
