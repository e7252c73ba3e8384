-- The marks left decide as all do. For the loop of `little_machine`.
use Rattle.std.proofs.Common.{◌≡◌, drop}
use Rattle.psz_spec.specs.Marks.{little_machine}
use Rattle.psz_read.proofs.marks.little_machine.Given as goal

abbrev pub invariant-loop-mark : goal.invariant-loop-mark
invariant-loop-mark l = little_machine l.image (drop l.mark-index l.marks) ≡ little_machine l.image l.marks
