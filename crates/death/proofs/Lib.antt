-- Lemmas on lines, levels, marks, reports and traces of a crash log. The functions of death cite
-- them.
mod Ends
mod Fronts
mod Places
mod Levels
mod Steps
mod MarkedLines
mod TraceEntries
mod FrameRows
mod CauseRows
mod Stands
mod Walks
mod EndRows
mod Names
mod Pieces
