pub mod Words
pub mod Boots
