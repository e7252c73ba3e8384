-- Lemmas on a line's tokens, a record's content and a zone's place. The crate's functions cite them.
mod Contents
mod Places
pub mod Plain
pub mod Onto
