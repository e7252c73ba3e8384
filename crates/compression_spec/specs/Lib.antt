pub mod Magics
