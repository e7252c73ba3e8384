pub mod Memory
pub mod Words
pub mod Layouts
pub mod Hints
pub mod Storages
pub mod Reports
pub mod Answers
pub mod Calls
