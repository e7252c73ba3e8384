pub mod Standing
pub mod Apart
pub mod Laws
pub mod Sessions
pub mod Ends
pub mod Rows
