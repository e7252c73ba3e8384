pub mod Idle
pub mod Exact
pub mod CutCalls
pub mod CutErasures
