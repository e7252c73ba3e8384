pub mod Laid
pub mod Marks
pub mod Family
pub mod Order
pub mod Taken
