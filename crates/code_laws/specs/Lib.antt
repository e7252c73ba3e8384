pub mod Laws
pub mod Locators
pub mod Shifts
pub mod Toward
pub mod Statements
