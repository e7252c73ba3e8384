-- The laws of the machine, lowest first: zones, live and off states, operations, cut boots, then
-- what every boot reads. ramoops and the laws above cite them.
pub mod Lists
pub mod Zones
pub mod TimeLines
pub mod Targets
pub mod LiveStates
pub mod OffStates
pub mod PartedStates
pub mod Operations
pub mod Sessions
pub mod Logs
pub mod MergedEntries
pub mod ListedRecords
pub mod CutBoot
pub mod Boots
pub mod LastWritten
pub mod ZoneReads
