-- What a machine stands for, and that each call keeps it: stores, flights, stops, boots, cut
-- boots, rebuilt stores. The crate's functions cite them.
pub mod Lists
pub mod Prefixes
pub mod KnownZones
pub mod FlightStart
pub mod FlightStores
pub mod Changes
pub mod Begun
pub mod CallPremises
pub mod Flown
pub mod StepStates
pub mod DumpFlights
pub mod WholeFlights
pub mod StopStates
pub mod BootReading
pub mod BootStores
pub mod Boots
pub mod CutBoot
pub mod ZonesFromLast
pub mod PartBoots
pub mod OffStates
pub mod LogAppend
pub mod FilledStates
