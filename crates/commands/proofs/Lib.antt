-- How each command ends: records, scripts, moves, shared zones and dumps, then the work of a plan
-- and the run. `run` and the commands cite them.
pub mod Alike
pub mod PutTexts
pub mod FirstBoot
pub mod RecordEnds
pub mod MakeEnds
pub mod DoneLines
pub mod HeadlineReads
pub mod ScriptEnds
pub mod WorkEnds
pub mod RunEnds
pub mod WorkDone
pub mod MoveEnds
pub mod Shareable
pub mod SharedReads
pub mod DumpEnds
pub mod RingTexts
pub mod MoveReads
pub mod Due
pub mod ImageFaults
pub mod Unread
pub mod Taking
