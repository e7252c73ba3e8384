-- Lemmas on zones and their headers, on the order of keys, on what refuses a candidate, and on the
-- best so far. The functions of layout_search cite them.
pub mod Ranges
pub mod Headers
pub mod Sums
pub mod Keys
pub mod LaidOut
pub mod Bounds
pub mod CandidateFaults
pub mod ZonesInImage
pub mod BestSoFar
pub mod Tags
pub mod Members
pub mod Usual
pub mod SearchAnswers
pub mod Slots
pub mod Nearer
