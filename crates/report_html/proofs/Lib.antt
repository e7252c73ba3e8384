-- Lemmas on escaped text, runs of blocks, and the pieces of a page. The crate's functions cite
-- them.
pub mod ForeignParts
pub mod FactRows
pub mod RunsOfBlocks
pub mod Texts
pub mod Runs
pub mod ByteRows
pub mod PieceTexts
pub mod NonZeroCounts
pub mod PartSums
pub mod Blocks
pub mod PictureZones
pub mod RowsOfZones
pub mod LogLines
pub mod RecordGroups
pub mod NewestFirst
pub mod Earlier
pub mod DamagedSpots
pub mod Rows
pub mod DumpCounts
