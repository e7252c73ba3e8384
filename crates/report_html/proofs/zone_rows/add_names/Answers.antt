-- The first name, and the number of the last
use Rattle.std.proofs.Common.{append_assoc}
use Rattle.report_html.proofs.zone_rows.add_names.Goals as goal

pub returns : goal.returns
returns c =
    simp (
      c.in_ok-add_up_to.ensures,
      c.in_ok-add_zone_name.ensures,
      c.in_ok-add.ensures,
      c.from-from.ensures,
      c.from-to.ensures,
      append_assoc,
    )
