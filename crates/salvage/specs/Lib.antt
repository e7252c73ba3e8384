pub mod Headers
pub mod Shapes
pub mod Sieves
pub mod Scans
