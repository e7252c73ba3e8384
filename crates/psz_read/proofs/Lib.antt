mod RunZones
mod RunRoom
pub mod Rests
mod Divisors
pub mod Fronts
mod PartRecords
mod CursorSteps
pub mod Agreeing
