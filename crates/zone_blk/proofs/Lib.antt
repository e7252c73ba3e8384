-- Lemmas on writes, readings and contents of the block store. The functions of `Blk` cite them.
pub mod Effects
pub mod Sequences
pub mod Turns
pub mod Fronts
pub mod Readings
pub mod FirstItem
pub mod Texts
pub mod LoadingWrites
pub mod Contents
pub mod DumpWrite
pub mod OneNameText
pub mod LayoutLaws
