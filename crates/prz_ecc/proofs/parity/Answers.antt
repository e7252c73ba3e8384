-- The parity of no bytes asked for is empty. For `parity`.
use Rattle.std.proofs.Common.{sym, ◌∙◌, arith}
use Rattle.prz_ecc.proofs.Readings.{parity_of-none}
use Rattle.prz_ecc.proofs.parity.Goals as goal

pub returns-else-r-gt0 : goal.returns-else-r-gt0
returns-else-r-gt0 c = c.clear.ensures ∙ sym (parity_of-none c.args.r c.args.bytes.now (omega arith))
