-- The first fault that is found is the definition's; with none there is the layout. For
-- `blk_layout`.
use Rattle.std.proofs.Common.{◌∙◌, sym}
use Rattle.zone_blk.proofs.LayoutLaws.{faulted, faultless}
use Rattle.zone_blk.proofs.layout.blk_layout.Goals as goal

pub returns-in-Some-clause-layout : goal.returns-in-Some-clause-layout
returns-in-Some-clause-layout c = faulted c.args.p.now c.in-Some.fault (sym c.first_fault.ensures ∙ c.in-Some.is)

pub returns-clause-layout : goal.returns-clause-layout
returns-clause-layout c = faultless c.args.p.now _ (sym c.first_fault.ensures ∙ c.in_default.is) cc
