-- A line that is not blank is read by its word and the fields after it. For `line_of`.
use Rattle.std.proofs.Common.{◌==◌, sym, ◌∙◌}
use Rattle.script.proofs.Cuts.{some_part}
use Rattle.script.proofs.Counts.{line_of_more}
use Rattle.script.proofs.rows.line_of.Goals as goal

pub returns-in-Some : goal.returns-in-Some
returns-in-Some c =
    rw (line_of_more _ _ _ (sym c.is_blank.ensures ∙ c.if-is_blank.false) c.in-Some.ensures.parts
    (some_part (λ b. b == 32) c.in-Some.rest.now)) c.row.ensures
