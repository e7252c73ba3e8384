-- Lemmas on images, stored rows, calls begun and run, for the calls of C. The crate's functions
-- cite them.
pub mod DecodeAnswer
pub mod Images
pub mod Ran
pub mod StoredRows
pub mod Back
pub mod Begun
pub mod WholeCalls
pub mod NextStores
pub mod LeftStores
pub mod WholeAnswer
pub mod FlightAnswer
pub mod Blocks
