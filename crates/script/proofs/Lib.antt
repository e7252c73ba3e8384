-- Lemmas on fields, digits and lines, read and printed, and the round trip. The crate's functions
-- cite them.
pub mod Back
pub mod Counts
pub mod Cuts
pub mod HexDigits
pub mod FieldTable
pub mod LineFields
pub mod Loop
pub mod Numbers
pub mod PrintedRead
pub mod Solid
pub mod Taken
