-- The rows on memories compute. By `Worked`.
use Rattle.layout_examples.proofs.Worked.{cut_header, whole_header, ends_found, start_above, damaged_mark, odd_place, reached, first}
use Rattle.layout_examples.proofs.memories.Goals as goal

pub returns-clause-cut_header : goal.returns-clause-cut_header
returns-clause-cut_header c = cut_header

pub returns-clause-whole_header : goal.returns-clause-whole_header
returns-clause-whole_header c = whole_header

pub returns-clause-ends : goal.returns-clause-ends
returns-clause-ends c = ends_found

pub returns-clause-start_above : goal.returns-clause-start_above
returns-clause-start_above c = start_above

pub returns-clause-damaged_mark : goal.returns-clause-damaged_mark
returns-clause-damaged_mark c = damaged_mark

pub returns-clause-odd_place : goal.returns-clause-odd_place
returns-clause-odd_place c = odd_place

pub returns-clause-reached : goal.returns-clause-reached
returns-clause-reached c = reached

pub returns-clause-first : goal.returns-clause-first
returns-clause-first c = first
