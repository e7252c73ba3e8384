pub mod Texts
pub mod Scripts
pub mod SharedScripts
pub mod BlkScripts
pub mod BlkStops
pub mod Playing
pub mod Generated
pub mod Headline
