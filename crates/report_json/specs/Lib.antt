pub mod Schema
pub mod Tokens
pub mod PutZones
