-- A plan without a place is the size of the regions that are looked for.
use Rattle.report_entry.proofs.SizedLayouts.{sized}
use Rattle.report_entry.proofs.laying.placed_layouts.Goals as goal

pub returns-in-Anywhere : goal.returns-in-Anywhere
returns-in-Anywhere c =
    sized c.args.words.now c.args.said.now.is_as_given c.in-Ok.plan c.in-Ok.ensures c.args.said.now.place
    c.in-Anywhere.is c.sized_layouts.result c.sized_layouts.ensures
