-- A number more
use Rattle.std.proofs.Common.{arith}
use Rattle.report_json.proofs.Plain.{line_more, plain_decimal}
use Rattle.report_json.proofs.tokens.Line.number.Goals as goal

pub invariant_of-self : goal.invariant_of-self
invariant_of-self c = line_more c.u64.result _ _ _ c.u64.ensures c.self.invariant (plain_decimal c.args.n c.ranges.n.fits)
