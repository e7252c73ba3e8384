pub mod Zones
pub mod Records
pub mod Found
pub mod Told
