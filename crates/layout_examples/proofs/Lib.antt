-- Each row computes. The functions of this crate cite them.
mod Worked
