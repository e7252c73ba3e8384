-- There is a processor. For `ftrace_row`.
use Rattle.ramoops_layout.proofs.Faultless.{faultless}
use Rattle.ramoops_layout.proofs.rows.ftrace_row.Goals as goal

pub nonzero_div-result : goal.nonzero_div-result
nonzero_div-result c = (faultless c.args.p.now c.requires).cpus_least
