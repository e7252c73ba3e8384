-- The lemmas on how a part reads, and its parity. The crate's functions cite them.
pub mod Readings
