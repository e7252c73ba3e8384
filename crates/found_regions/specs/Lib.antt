pub mod Regions
pub mod Search
pub mod Places
