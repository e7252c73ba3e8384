-- The lemma on the line that the measure logs. `main` cites it.
pub mod LogLine
