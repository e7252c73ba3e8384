pub mod Fronts
pub mod Readings
mod HeadersSeen
mod Pieces
mod Copies
mod Holding
