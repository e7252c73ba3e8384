-- A layout's block size fits. For `Layout::block`.
use Rattle.std.proofs.Common.{arith}
use Rattle.ramoops_layout.proofs.WholeLayout.{layout_block_small}
use Rattle.ramoops_layout.proofs.types.Layout.block.Goals as goal

pub overflow_cast-result : goal.overflow_cast-result
overflow_cast-result c = omega (
  arith,
  layout_block_small c.args.self.now.params c.args.self.now.zones.items
      c.args.self.now.laid,
)
