pub mod Sessions
pub mod Logs
pub mod Listed
pub mod Boots
pub mod ZoneReads
pub mod CutBoots
pub mod Headline
