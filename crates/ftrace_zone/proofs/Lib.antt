-- Lemmas on an entry's words, groups of 24 bytes, and the merge. The functions of ftrace_zone cite
-- them.
pub mod Words
pub mod Groups
pub mod MergeSteps
