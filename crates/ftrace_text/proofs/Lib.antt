-- The lemmas on the line of an entry: its words are those of its bytes. `push_line` and `lines_of`
-- cite them.
pub mod Entries
pub mod Falls
pub mod Unfoldings
