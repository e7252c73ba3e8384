-- The laws of a word's bytes. The crate's functions and the crates above cite them.
pub mod WordBytes
