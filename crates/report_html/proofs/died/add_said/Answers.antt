-- The telling line, and the panic below it
use Rattle.std.proofs.Common.{append_assoc}
use Rattle.report_html.proofs.died.add_said.Goals as goal

pub returns : goal.returns
returns c =
    simp (c.in_ok-add-2.ensures, c.in_ok-add_second.ensures, c.in_ok-add.ensures, c.part.ensures.part, append_assoc)
