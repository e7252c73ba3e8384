-- Lemmas on the pieces of an image, and on why its reading stops.
pub mod Pieces
pub mod Sizes
