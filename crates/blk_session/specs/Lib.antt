pub mod Asked
pub mod Lines
pub mod Texts
pub mod Stops
pub mod Playing
