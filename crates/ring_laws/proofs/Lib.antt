-- The laws of one zone, lowest first: images, ring bytes, parts, calls, boots. The laws above and
-- the code of a zone cite them.
pub mod Images
pub mod RingBytes
pub mod AppendLaw
pub mod RingLaw
pub mod ReadingLaw
pub mod PartsLaw
pub mod RunLaw
pub mod EveryParity
pub mod PartWords
pub mod CallLaw
pub mod StoreBytes
pub mod StoreCounts
pub mod Fixes
pub mod States
pub mod BootLaw
pub mod BootRing
pub mod HeaderWords
pub mod Laws
