-- That scripts are sessions, and what holds of their crashes, steps and shared zones. The crate's
-- functions and commands cite them.
mod Crashes
mod Kernels
pub mod SoundStates
pub mod Steps
pub mod BlkScripts
pub mod RamScripts
pub mod SharedScripts
pub mod Play
