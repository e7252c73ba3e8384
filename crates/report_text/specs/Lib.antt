pub mod Pieces
pub mod Tables
pub mod Tails
pub mod Rows
pub mod Around
pub mod Facts
pub mod Earlier
pub mod Whole
