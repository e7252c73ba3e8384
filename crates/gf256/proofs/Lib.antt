-- Lemmas on the tables of powers and logarithms, and on products by bits. The functions of gf256
-- cite them.
pub mod Tables
pub mod Bits
