-- The report stopped, with its counts. For `report_by`.
use Rattle.report_run.proofs.images.report_by.Goals as goal

pub returns-in-Err-clause-reported : goal.returns-in-Err-clause-reported
returns-in-Err-clause-reported g c = record {
  stop = c.in-Err.stop;
  cause = c.in-Err.ensures.reported;
  no_read_fault = c.in-Err.ensures.image_counts;
  no_put_fault = c.in-Err.ensures.sink_counts;
  why_is = c.stop_failure.ensures;
}
