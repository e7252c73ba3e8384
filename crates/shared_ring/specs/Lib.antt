pub mod Seats
pub mod Seen
