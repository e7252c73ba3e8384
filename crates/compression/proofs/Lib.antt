-- Lemmas on rows of magic bytes. `first_row` of compression cites them.
mod Fronts
