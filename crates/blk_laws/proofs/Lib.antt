-- The laws of the block store, lowest first: zones and rings, appends, cuts, then whole sessions.
-- The crate's functions and zone_blk cite them.
pub mod Zones
pub mod RingLists
pub mod Rings
pub mod Appends
pub mod OwnZones
pub mod Cuts
pub mod Listings
pub mod Sessions
pub mod Lines
pub mod CutSessions
pub mod Faults
pub mod Ends
pub mod EarlyWrites
pub mod Pieces
