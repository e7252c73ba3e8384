-- What lets the checker compute a row, and a corrected ring. The rows cite them.
pub mod Unfoldings
pub mod GivenCodewords
