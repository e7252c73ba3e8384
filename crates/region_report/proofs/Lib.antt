-- Lemmas on an image's zones, on how records are shown, and on the console that tells more. The
-- crate's functions cite them.
pub mod Zones
pub mod OneMoreRecord
pub mod OneWay
pub mod Later
pub mod Consoles
pub mod AndroidLogs
pub mod Places
pub mod ReasonRows
pub mod DigitRuns
pub mod SaidLines
pub mod ConsoleLogs
pub mod SameLines
pub mod MendedLines
pub mod MendedRecords
