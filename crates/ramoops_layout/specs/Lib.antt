pub mod Layouts
pub mod Laid
pub mod Rows
pub mod Found
pub mod Keys
