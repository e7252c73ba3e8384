-- The state, the place and the size
use Rattle.report_html.proofs.zone_rows.add_places.Goals as goal

pub returns : goal.returns
returns c =
    simp (
      c.in_ok-add.ensures,
      c.read_text-read.ensures,
      c.from-at.ensures,
      c.from-size.ensures,
      c.each_text-each.ensures,
      c.from.ensures,
      c.from-2.ensures,
    )
