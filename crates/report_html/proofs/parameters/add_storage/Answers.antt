-- Six rows, one after the other
use Rattle.std.proofs.Common.{append_assoc}
use Rattle.report_html.proofs.parameters.add_storage.Goals as goal

pub returns : goal.returns
returns c =
    simp (
      c.in_ok-add_parameter-6.ensures,
      c.in_ok-add_parameter-5.ensures,
      c.in_ok-add_parameter-4.ensures,
      c.in_ok-add_parameter-3.ensures,
      c.in_ok-add_parameter-2.ensures,
      c.in_ok-add_parameter.ensures,
      c.from-5.ensures,
      c.from-4.ensures,
      c.from-3.ensures,
      c.from-2.ensures,
      c.from.ensures,
      append_assoc,
    )
