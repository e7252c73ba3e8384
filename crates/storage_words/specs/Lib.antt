pub mod Words
pub mod Division
pub mod Rows
