pub mod Reasons
pub mod Bodies
