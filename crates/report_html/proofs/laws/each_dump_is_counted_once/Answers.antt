-- The lines of rows differ, and the others have none of them. By `DumpCounts`.
use Rattle.report_html.proofs.DumpCounts.{counted-once}
use Rattle.report_html.proofs.laws.each_dump_is_counted_once.Goals as goal

pub returns : goal.returns
returns c = counted-once
