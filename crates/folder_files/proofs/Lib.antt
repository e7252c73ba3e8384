-- Loops over names, folders, levels and paths.
mod Steps
mod Whole
