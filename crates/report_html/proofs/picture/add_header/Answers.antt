-- The rectangle of a header, and how it reads
use Rattle.std.proofs.Common.{append_assoc}
use Rattle.report_html.proofs.picture.add_header.Goals as goal

pub returns : goal.returns
returns c =
    simp (
      c.in_ok-add_closing.ensures,
      c.in_ok-add_corrected.ensures,
      c.in_ok-add.ensures,
      c.in_ok-add_opening.ensures,
      c.part_text-words.ensures,
      append_assoc,
    )
