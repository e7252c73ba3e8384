pub mod Runs
pub mod Rests
pub mod Laws
