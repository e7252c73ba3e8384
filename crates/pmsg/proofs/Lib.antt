-- Lemmas on entries one after another, on bytes up to a zero, and on months and years. The
-- functions of pmsg cite them.
pub mod Skips
pub mod Texts
pub mod Dates
