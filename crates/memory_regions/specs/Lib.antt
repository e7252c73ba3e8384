pub mod Faults
pub mod Choice
