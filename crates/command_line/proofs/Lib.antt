-- Lemmas on the words, the script, and how a run answers. The crate's functions and
-- commands cite them.
pub mod SourceParts
pub mod MoveWords
pub mod RunAnswers
pub mod Image
pub mod StageStops
pub mod Script
pub mod ReadParts
pub mod Tool
pub mod Few
pub mod FewWords
pub mod BlkScript
pub mod BlkAnswers
pub mod AnyWords
pub mod Counts
pub mod WordRequests
pub mod SharedZoneWord
