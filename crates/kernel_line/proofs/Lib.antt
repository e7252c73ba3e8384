-- The lemmas on a line's words, one after another, and on its numbers. `word_end`, `kernel_words`, `add_words`,
-- `address` and `reserved_size` cite them, with the law on white space.
mod Lines
mod Plain
mod WordLoop
pub mod Among
pub mod Places
mod Digits
mod Behind
