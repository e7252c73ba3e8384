-- How the code sees the table of words.
pub mod Rows
