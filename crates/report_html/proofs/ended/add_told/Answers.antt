-- A link, and how the record read
use Rattle.std.proofs.Common.{append_assoc}
use Rattle.report_html.proofs.ended.add_told.Goals as goal

pub returns : goal.returns
returns c =
    simp (c.in_ok-add-2.ensures, c.in_ok-add_read.ensures, c.in_ok-add.ensures, append_assoc)
