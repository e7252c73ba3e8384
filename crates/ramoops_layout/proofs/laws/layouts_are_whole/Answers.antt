-- The zones of every layout are valid, lie side by side from 0 on, and end within the memory. By
-- `WholeLayout`.
use Rattle.ramoops_layout.proofs.WholeLayout.{whole_layout}
use Rattle.ramoops_layout.proofs.laws.layouts_are_whole.Goals as goal

pub returns : goal.returns
returns c = whole_layout
