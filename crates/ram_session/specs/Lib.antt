pub mod Answers
pub mod Sessions
pub mod Kernels
pub mod Machines
pub mod Records
pub mod Playing
pub mod Erasing
pub mod Entries
