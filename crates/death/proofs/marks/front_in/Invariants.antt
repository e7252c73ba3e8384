-- The rows from here decide. For the loop of `front_in`.
use Rattle.std.proofs.Common.{◌≡◌, drop}
use Rattle.death_spec.specs.Marks.{front_in}
use Rattle.death.specs.Rows.{plain}
use Rattle.death.proofs.marks.front_in.Given as goal

abbrev pub invariant-loop-row : goal.invariant-loop-row
invariant-loop-row l = front_in (plain l.rows) l.text ≡ front_in (plain (drop l.row-index l.rows)) l.text
