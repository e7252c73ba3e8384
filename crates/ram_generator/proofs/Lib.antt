-- Lemmas on draws, turns, damage and rounds of a generated session. The crate's functions cite
-- them.
pub mod Over
pub mod DrawLoops
pub mod TurnDraws
pub mod PartFlips
pub mod Flips
pub mod Fits
pub mod SessionCalls
pub mod RoundCalls
pub mod WholeSession
