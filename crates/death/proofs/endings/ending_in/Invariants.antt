-- The rows from here decide. For the loop of `ending_in`.
use Rattle.std.proofs.Common.{◌≡◌, drop}
use Rattle.death_spec.specs.Endings.{ending_in}
use Rattle.death.specs.Rows.{plain}
use Rattle.death.proofs.endings.ending_in.Given as goal

abbrev pub invariant-loop-row : goal.invariant-loop-row
invariant-loop-row l = ending_in (plain l.rows) l.text ≡ ending_in (plain (drop l.row-index l.rows)) l.text
