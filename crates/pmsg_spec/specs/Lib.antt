pub mod Entries
pub mod Payloads
pub mod Calendar
pub mod Lines
