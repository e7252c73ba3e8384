-- More than one field is not one. For `one`.
use Rattle.std.proofs.Common.{◌==◌, ap, ◌∙◌}
use Rattle.grammar_spec.specs.Groups.{one}
use Rattle.script.proofs.Cuts.{some_part}
use Rattle.script.proofs.Counts.{one_of_more}
use Rattle.script.proofs.rows.one.Goals as goal

pub returns-in-Some : goal.returns-in-Some
returns-in-Some c =
    ap one c.in-Some.ensures.parts ∙ one_of_more _ _ (some_part (λ b. b == 32) c.in-Some.field-0.1.now)
