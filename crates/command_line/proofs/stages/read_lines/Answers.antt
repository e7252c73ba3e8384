-- A script that is not too long has fewer than 2^32 lines. For `read_lines`.
use Rattle.std.proofs.Common.{arith}
use Rattle.command_line.proofs.Few.{few}
use Rattle.command_line.proofs.stages.read_lines.Goals as goal

pub returns-in-Ok-end-clause-few : goal.returns-in-Ok-end-clause-few
returns-in-Ok-end-clause-few g c =
    let all = c.in-Ok.ensures.ok in
    omega (arith, few all.given c.in-Ok-end.lines (c.in-Ok-end.ensures.read all.given all.taken), all.few)
