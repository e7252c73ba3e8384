-- A printed script reads as the lines that it was printed from. For `print`.
use Rattle.std.proofs.Common.{ap, ◌∙◌}
use Rattle.std.proofs.lemmas.List.{take_all}
use Rattle.grammar_spec.specs.Lines.{script_of}
use Rattle.grammar_spec.specs.Printed.{script_text}
use Rattle.script.proofs.PrintedRead.{script_back}
use Rattle.script.proofs.printing.print.Goals as goal

pub returns-clause-read : goal.returns-clause-read
returns-clause-read c =
    ap script_of (c.from_vec.ensures ∙ c.loop-line.invariant
    ∙ ap script_text (take_all c.loop-line.line-index c.as_slice-line-items.result.now c.loop-line-test.false
    ∙ c.as_slice-line-items.ensures))
    ∙ script_back c.args.lines.now c.requires
