-- A layout's memory fits 32 bits. For `Layout::mem`.
use Rattle.std.proofs.Common.{arith}
use Rattle.ramoops_layout.proofs.WholeLayout.{layout_mem_small}
use Rattle.ramoops_layout.proofs.types.Layout.mem.Goals as goal

pub overflow_cast-result : goal.overflow_cast-result
overflow_cast-result c = omega (
  arith,
  layout_mem_small c.args.self.now.params c.args.self.now.zones.items c.args.self.now.laid,
)
