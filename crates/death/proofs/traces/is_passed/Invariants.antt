-- The rows from here decide. For the loop of `is_passed`.
use Rattle.std.proofs.Common.{◌≡◌, drop}
use Rattle.death_spec.specs.Traces.{is_passed}
use Rattle.death.specs.Rows.{plain}
use Rattle.death.proofs.traces.is_passed.Given as goal

abbrev pub invariant-loop-row : goal.invariant-loop-row
invariant-loop-row l =
    is_passed (plain l.rows) l.fn.hangs l.name ≡ is_passed (plain (drop l.row-index l.rows)) l.fn.hangs l.name
