pub mod Words
pub mod Ends
pub mod Stages
pub mod Ended
