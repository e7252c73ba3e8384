-- The line above a record stands in an element of its own
use Rattle.std.proofs.Common.{append_assoc}
use Rattle.report_html.proofs.listed.add_say.Goals as goal

pub returns : goal.returns
returns c =
    simp (c.in_ok-add-2.ensures, c.in_ok-add_above.ensures, c.in_ok-add.ensures, append_assoc)
