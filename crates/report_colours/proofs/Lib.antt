-- What a sink is given piece by piece, and the lines of a text. `put_line` and `put_coloured` cite them.
mod Pieces
