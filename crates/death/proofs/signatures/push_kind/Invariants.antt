-- The rows from here decide. For the loop of `push_kind`.
use Rattle.std.proofs.Common.{◌≡◌, drop}
use Rattle.death_spec.specs.Signatures.{kind_in}
use Rattle.death.specs.Rows.{plain_kinds}
use Rattle.death.proofs.signatures.push_kind.Given as goal

abbrev pub invariant-loop-row : goal.invariant-loop-row
invariant-loop-row l =
    (kind_in (plain_kinds l.rows) l.words ≡ kind_in (plain_kinds (drop l.row-index l.rows)) l.words)
    × (l.signature.items ≡ l.fn.signature.items)
