pub mod Candidates
pub mod Counts
pub mod Contents
pub mod Tables
pub mod Moves
pub mod Walks
