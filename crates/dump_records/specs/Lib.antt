pub mod Parts
pub mod RoundTrip
pub mod Cursors
