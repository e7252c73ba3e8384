-- The rows of bytes are their lines, each cut into rows. By `Cuts`.
use Rattle.report_text.proofs.Cuts.{all_cut}
use Rattle.report_text.proofs.laws.rows_are_the_lines.Goals as goal

pub returns : goal.returns
returns c = all_cut
