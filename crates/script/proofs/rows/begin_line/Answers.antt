-- A line `begin` has a word after it, or is bad. For `begin_line`.
use Rattle.std.proofs.Common.{◌==◌, ap, ◌∙◌}
use Rattle.grammar_spec.specs.Rows.{begin_line}
use Rattle.script.proofs.Cuts.{some_part}
use Rattle.script.proofs.Counts.{begin_of_more, begin_of_one}
use Rattle.script.proofs.rows.begin_line.Goals as goal

pub returns-in-Some : goal.returns-in-Some
returns-in-Some c =
    rw (ap begin_line c.in-Some.ensures.parts ∙ begin_of_more _ _ (some_part (λ b. b == 32) c.in-Some.rest.now))
    c.begin_row.ensures

pub returns-in-None : goal.returns-in-None
returns-in-None c = ap begin_line c.in-None.ensures.none ∙ begin_of_one _
