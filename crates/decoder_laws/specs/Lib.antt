pub mod Series
pub mod Polynomials
pub mod Locators
pub mod Euclid
pub mod Chien
pub mod Forney
pub mod Damage
pub mod Laws
