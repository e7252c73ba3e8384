pub mod Moves
pub mod Listed
