-- The lines so far are read, and the rest is what follows them. For the loop of `read_front`.
use Rattle.std.proofs.Common.{ℕ, List, length}
use Rattle.script.specs.Pieces.{HasRead}
use Rattle.script.proofs.reading.read_front.Given as goal

abbrev pub invariant-loop-line : goal.invariant-loop-line
invariant-loop-line l = (given : List ℕ) → HasRead given l.initial.lines.items l.text → HasRead given l.lines.items l.rest

abbrev pub decreases-loop-line : goal.decreases-loop-line
decreases-loop-line l = length l.rest
