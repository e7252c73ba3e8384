pub mod Reads
pub mod Summaries
pub mod Handed
pub mod Left
pub mod Booting
