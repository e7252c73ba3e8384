-- What keeps a crash told: calls, ftrace entries, stops and boots that are cut, then whole
-- scripts. The crate's functions cite them.
mod Items
mod Calls
mod Entries
mod DumpOfCrash
pub mod Stops
mod CutBoots
mod DumpZoneStays
pub mod Scripts
