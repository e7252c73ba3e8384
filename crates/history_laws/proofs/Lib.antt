-- What each zone is told is what was written, step by step, and what the next boot reads. The
-- crate's functions and script_laws cite them.
pub mod ZoneSteps
pub mod Steps
pub mod WrittenLogs
pub mod NextBoot
