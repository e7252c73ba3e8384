-- The runs fit, and make the list of zones in the order of reading. For `read_at`.
use Rattle.std.proofs.Common.{ap, ◌∙◌, List}
use Rattle.std.specs.Prelude.{slice_get}
use Rattle.psz_spec.specs.declared.Zone.{Zone}
use Rattle.psz_read.proofs.RunZones.{order_from_runs}
use Rattle.psz_read.proofs.RunRoom.{fits_pmsg, fits_console, fits_ftrace, fits_dump}
use Rattle.psz_read.proofs.zones.read_at.Goals as goal

pub returns : goal.returns
returns c = c.pick.ensures
    ∙ ap (λ (zs : List Zone). slice_get zs c.args.index)
    (order_from_runs c.args.sizes.now c.pmsg_run-pmsg.result c.console_run-console.result c.ftrace_run-ftrace.result
    c.dump_run-dump.result c.pmsg_run-pmsg.ensures c.console_run-console.ensures c.ftrace_run-ftrace.ensures
    c.dump_run-dump.ensures)

pub pick-requires-clause-first : goal.pick-requires-clause-first
pick-requires-clause-first c = fits_dump c.args.sizes.now c.dump_run-dump.result c.requires c.dump_run-dump.ensures

pub pick-requires-clause-second : goal.pick-requires-clause-second
pick-requires-clause-second c = fits_ftrace c.args.sizes.now c.ftrace_run-ftrace.result c.requires
    c.ftrace_run-ftrace.ensures

pub pick-requires-clause-third : goal.pick-requires-clause-third
pick-requires-clause-third c = fits_pmsg c.args.sizes.now c.pmsg_run-pmsg.result c.requires c.pmsg_run-pmsg.ensures

pub pick-requires-clause-fourth : goal.pick-requires-clause-fourth
pick-requires-clause-fourth c = fits_console c.args.sizes.now c.console_run-console.result c.requires
    c.console_run-console.ensures
