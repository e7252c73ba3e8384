-- Lemmas on sizes, rows, and zones that lie side by side with names that differ. The functions of
-- `Layout` cite them.
pub mod PowersOfTwo
pub mod Faultless
pub mod LaidOut
pub mod WholeLayout
pub mod NamesDiffer
pub mod RowPlaces
pub mod FoundRows
pub mod Texts
pub mod WordLaws
pub mod DistinctKeys
