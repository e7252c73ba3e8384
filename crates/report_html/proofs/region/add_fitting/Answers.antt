-- A zone's name, and its size
use Rattle.std.proofs.Common.{append_assoc}
use Rattle.report_html.proofs.region.add_fitting.Goals as goal

pub returns : goal.returns
returns c =
    simp (
      c.in_ok-add-2.ensures,
      c.in_ok-add_zone_name.ensures,
      c.in_ok-add.ensures,
      c.label_opening-opening.ensures,
      c.from-size.ensures,
      append_assoc,
    )
