-- Lemmas on the nearest function of a list, and on a map read byte by byte. The functions of
-- symbols cite them.
pub mod Nearest
pub mod Steps
