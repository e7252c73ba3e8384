pub mod Line
pub mod Region
