-- Lemmas on amended headers, rings of shapes, and the list of all rings. The functions of `Scan`
-- cite them.
pub mod Amends
pub mod Rings
pub mod HeaderSums
pub mod Ranges
pub mod ZoneShapes
pub mod ScanRest
pub mod PlaceReading
pub mod BlockFactors
pub mod Pairs
pub mod BlockSums
pub mod Marks
pub mod Rows
