-- Lemmas on digits, numbers and the time line. The functions of dump_records cite them.
pub mod Digits
pub mod Decimals
pub mod Lines
