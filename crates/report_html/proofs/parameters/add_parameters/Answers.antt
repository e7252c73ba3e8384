-- The head, the rows, and the end of the table
use Rattle.std.proofs.Common.{append_assoc}
use Rattle.report_html.proofs.parameters.add_parameters.Goals as goal

pub returns : goal.returns
returns c =
    simp (
      c.in_ok-add-2.ensures,
      c.in_ok-add_rows.ensures,
      c.in_ok-add.ensures,
      append_assoc,
    )
