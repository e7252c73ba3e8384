-- The call ends as its body does.
use Rattle.oopsbox_c.proofs.reporting.oopsbox_report.Goals as goal

pub returns : goal.returns
returns c = (c.report-end.result, c.status.ensures, c.report-end.ensures)
