-- The parity of a kind without fault is small, so the zone's numbers fit. For `zone_at`.
use Rattle.std.proofs.Common.{arith}
use Rattle.ramoops_layout.proofs.Faultless.{faultless, parity_within}
use Rattle.ramoops_layout.proofs.rows.zone_at.Goals as goal

pub blocks_in-blocks-requires-clause-parity : goal.blocks_in-blocks-requires-clause-parity
blocks_in-blocks-requires-clause-parity c = omega (
  arith,
  c.parity-parity.ensures,
  parity_within c.args.p.now c.args.kind (faultless c.args.p.now c.requires.faultless),
)

pub overflow_cast-result-6 : goal.overflow_cast-result-6
overflow_cast-result-6 c = omega (
  arith,
  c.parity-parity.ensures,
  parity_within c.args.p.now c.args.kind (faultless c.args.p.now c.requires.faultless),
)
