-- The laws of the decoder, lowest first: power series, words, the key equation, Euclid, Chien,
-- Forney, damage. The crate's functions and rs_decode cite them.
pub mod Series
pub mod Horner
pub mod Polynomials
pub mod Powers
pub mod KeyEquation
pub mod Locators
pub mod Euclid
pub mod Unique
pub mod Chien
pub mod Forney
pub mod Damage
pub mod Nearest
