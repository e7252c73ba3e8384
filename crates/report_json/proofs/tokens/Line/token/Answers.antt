-- A token more
use Rattle.report_json.proofs.Plain.{line_more}
use Rattle.report_json.proofs.tokens.Line.token.Goals as goal

pub invariant_of-self : goal.invariant_of-self
invariant_of-self c = line_more c.token.result _ _ _ c.token.ensures c.self.invariant c.requires.plain
