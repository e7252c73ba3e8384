pub mod Scripts
pub mod Steps
pub mod BlkScripts
pub mod Crashes
pub mod RamScripts
pub mod SharedScripts
