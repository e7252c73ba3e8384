pub mod Outcomes
pub mod Fits
pub mod Loading
pub mod Loaded
pub mod Calls
pub mod Decimals
pub mod Answering
