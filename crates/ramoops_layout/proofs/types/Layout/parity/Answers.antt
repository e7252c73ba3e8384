-- A layout's parity fits. For `Layout::parity`.
use Rattle.std.proofs.Common.{arith}
use Rattle.ramoops_layout.proofs.WholeLayout.{layout_parity_small}
use Rattle.ramoops_layout.proofs.types.Layout.parity.Goals as goal

pub overflow_cast-result : goal.overflow_cast-result
overflow_cast-result c = omega (
  arith,
  layout_parity_small c.args.self.now.params c.args.self.now.zones.items c.args.self.now.laid,
)
