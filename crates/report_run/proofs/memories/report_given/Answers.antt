-- The name is that of the place. For `report_given`.
use Rattle.std.proofs.Common.{◌∙◌}
use Rattle.report_run.proofs.NamedRegions.{given_named}
use Rattle.report_run.proofs.memories.report_given.Goals as goal

pub returns-clause-done : goal.returns-clause-done
returns-clause-done g c =
    given_named c.args.asked.now c.args.path.now c.args.whole.base _ _ _ _ c.args.plan.now c.args.whole.place
    c.in-Some.place _ _ _ _ _ _ c.report_place.result c.in-Some.is (c.deref.ensures ∙ c.in_ok-name.ensures)
    c.report_place.ensures.done
