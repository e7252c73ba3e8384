-- The text is that of the lines so far. For the loop of `print`.
use Rattle.std.proofs.Common.{◌≡◌, take}
use Rattle.grammar_spec.specs.Printed.{script_text}
use Rattle.script.proofs.printing.print.Given as goal

abbrev pub invariant-loop-line : goal.invariant-loop-line
invariant-loop-line l = l.out.items ≡ script_text (take l.line-index l.line-items)
