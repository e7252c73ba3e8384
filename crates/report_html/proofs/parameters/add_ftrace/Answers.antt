-- Four rows, one after another
use Rattle.std.proofs.Common.{append_assoc}
use Rattle.report_html.proofs.parameters.add_ftrace.Goals as goal

pub returns : goal.returns
returns c =
    simp (
      c.in_ok-add_byte_order.ensures,
      c.in_ok-add_order.ensures,
      c.in_ok-add_parameter-2.ensures,
      c.in_ok-add_parameter.ensures,
      c.from.ensures,
      append_assoc,
    )
