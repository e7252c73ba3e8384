pub mod Turns
pub mod Damage
pub mod Counting
pub mod Sessions
