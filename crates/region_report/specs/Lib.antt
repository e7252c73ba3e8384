pub mod Reports
pub mod Laws
pub mod Tellers
pub mod Counted
pub mod Warned
pub mod Machines
pub mod Mendings
