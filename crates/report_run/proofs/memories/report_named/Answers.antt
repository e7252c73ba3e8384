-- The name is that of the place. For `report_named`.
use Rattle.std.proofs.Common.{◌∙◌}
use Rattle.report_run.proofs.NamedRegions.{named}
use Rattle.report_run.proofs.memories.report_named.Goals as goal

pub returns-clause-done : goal.returns-clause-done
returns-clause-done g c =
    named c.args.asked.now c.args.path.now c.args.base _ _ _ _ c.args.region.now _ _ c.report_region.result
    (c.deref.ensures ∙ c.in_ok-name.ensures) c.report_region.ensures.done
