pub mod PageMarks
pub mod NextPiece
mod FromFront
mod EndsWithin
