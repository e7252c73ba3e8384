pub mod Calls
pub mod Machine
pub mod Runs
pub mod Histories
