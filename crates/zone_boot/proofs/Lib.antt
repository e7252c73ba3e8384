-- Lemmas on a zone read where it lies, and on what is left of a boot's stores. The crate's
-- functions cite them.
pub mod Rows
pub mod Blocks
pub mod Logs
pub mod HeaderReading
pub mod PartFixes
pub mod PartRuns
pub mod StoreCounts
pub mod LaterStores
pub mod BootHandOut
pub mod BootStart
pub mod Lines
