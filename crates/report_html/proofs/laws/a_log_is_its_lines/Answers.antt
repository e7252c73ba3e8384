-- The lines of a log, end to end, are the log. By `LogLines`.
use Rattle.report_html.proofs.LogLines.{log-is-lines}
use Rattle.report_html.proofs.laws.a_log_is_its_lines.Goals as goal

pub returns : goal.returns
returns c = log-is-lines
