-- Lemmas on the last lines that fit, where they start, and the search for a newline. The functions
-- of `KLog` cite them.
pub mod LastLines
pub mod Starts
pub mod Search
