pub mod Maps
pub mod Functions
pub mod Shifts
