-- What a move carries over: moved images, the order of records, layouts. The crate's functions and
-- ramoops cite them.
pub mod Codes
pub mod Blank
pub mod FreshZones
pub mod Counts
pub mod MovedState
pub mod ListedLogs
pub mod Order
pub mod Fits
pub mod Places
pub mod SavedLogs
pub mod Rising
