pub mod Reads
pub mod Fronts
pub mod Saving
pub mod Sources
pub mod Steps
