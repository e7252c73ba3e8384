-- Lemmas on the order of a call's stores: phases, counts, places, and what is handed out. The
-- functions of `Steps` cite them.
pub mod StoresLeft
pub mod PhaseEntry
pub mod Parts
pub mod PhaseStores
pub mod FlightSteps
pub mod ParityBytes
pub mod Totals
pub mod CallBegin
pub mod FlightImage
pub mod HandOut
pub mod AllHandedOut
pub mod PairLists
pub mod Runs
pub mod TouchedBlocks
pub mod LeftCounts
pub mod DumpParts
pub mod Data
pub mod Small
pub mod PlainStores
pub mod WholeRuns
pub mod WholeTaken
