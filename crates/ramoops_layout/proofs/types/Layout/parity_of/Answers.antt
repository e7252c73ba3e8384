-- The parity of each kind of a layout fits. For `Layout::parity_of`.
use Rattle.std.proofs.Common.{arith}
use Rattle.ramoops_layout.proofs.WholeLayout.{layout_kind_small}
use Rattle.ramoops_layout.proofs.types.Layout.parity_of.Goals as goal

pub overflow_cast-result : goal.overflow_cast-result
overflow_cast-result c = omega (
  arith,
  c.parity.ensures,
  layout_kind_small c.args.self.now.params c.args.self.now.zones.items c.args.kind c.args.self.now.laid,
)
