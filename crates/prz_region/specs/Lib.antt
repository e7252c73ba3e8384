pub mod Made
pub mod CutRegion
pub mod Row
pub mod Chain
pub mod Shell
