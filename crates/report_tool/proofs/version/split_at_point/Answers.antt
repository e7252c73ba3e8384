-- The parts are those before and after the first point. For `split_at_point`.
use Rattle.std.proofs.Common.{arith}
use Rattle.report_tool.proofs.Splits.{split_once_is}
use Rattle.report_tool.proofs.version.split_at_point.Goals as goal

pub returns : goal.returns
returns c = split_once_is 46 c.args.text.now c.split_once.result c.split_once.ensures.cases (omega arith)
