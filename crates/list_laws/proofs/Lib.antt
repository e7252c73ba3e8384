-- Laws of lists that several crates share: elements, ranges, slices, places, rounding up,
-- comparisons. The crate's functions and the crates above cite them.
pub mod Elements
pub mod Ranges
pub mod Slices
pub mod Gets
pub mod RoundingUp
pub mod Tests
