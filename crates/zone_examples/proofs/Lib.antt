-- What lets the checker compute a row: words with their parity, values and readings. The rows cite
-- them.
pub mod Unfoldings
pub mod Values
pub mod Given
pub mod Stores
pub mod GivenParts
pub mod Clean
pub mod Fixes
pub mod TwoParityBytes
pub mod SixteenParityBytes
pub mod LeftAway
