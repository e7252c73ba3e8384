-- The rows from here decide. For the loop of `cause_in`.
use Rattle.std.proofs.Common.{◌≡◌, drop}
use Rattle.death_spec.specs.Causes.{cause_in}
use Rattle.death.specs.Rows.{plain}
use Rattle.death.proofs.causes.cause_in.Given as goal

abbrev pub invariant-loop-row : goal.invariant-loop-row
invariant-loop-row l = cause_in (plain l.rows) l.text ≡ cause_in (plain (drop l.row-index l.rows)) l.text
