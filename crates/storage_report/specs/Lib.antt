pub mod Faults
pub mod Held
pub mod Reports
pub mod Given
pub mod Scans
pub mod Pieces
pub mod Copies
pub mod Laws
