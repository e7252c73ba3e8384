-- Lemmas on pieces of one allocation, cutting and joining, and on stores into a span. The
-- functions of `Spans` and `Region` cite them.
pub mod Names
pub mod Rows
pub mod Shells
pub mod Chains
pub mod CutLoop
pub mod Cuts
pub mod Stores
pub mod Headers
