-- Lemmas on rows, cuts and pieces of a text, and that each byte is visible. The crate's functions
-- cite them.
mod Cuts
pub mod VisibleBytes
pub mod ZoneRows
pub mod PieceTexts
pub mod LastLines
pub mod RowCuts
pub mod PartSums
pub mod Others
