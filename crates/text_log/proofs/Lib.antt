-- Lemmas on what stands before a line's words, and on the places where boots begin. The functions of text_log cite
-- them.
mod Pieces
mod Firsts
