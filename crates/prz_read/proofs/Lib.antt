-- Lemmas on a zone's reading, piece by piece, and on the stores of a boot. The crate's functions
-- cite them.
pub mod Images
pub mod Fronts
pub mod States
pub mod Saves
pub mod Tails
pub mod LogSources
pub mod LimitedBoot
pub mod NoCorrections
pub mod BlockList
pub mod ZoneNumbers
