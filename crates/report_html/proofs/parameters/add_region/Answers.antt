-- Sizes, parity and ftrace, one after another
use Rattle.std.proofs.Common.{append_assoc}
use Rattle.report_html.proofs.parameters.add_region.Goals as goal

pub returns : goal.returns
returns c =
    simp (
      c.in_ok-add_ftrace.ensures,
      c.in_ok-add_parity.ensures,
      c.in_ok-add_sizes.ensures,
      append_assoc,
    )
