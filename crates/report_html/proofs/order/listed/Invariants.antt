-- The records so far. For the loop of `listed`.
use Rattle.std.proofs.Common.{◌≡◌, take}
use Rattle.report_html.specs.Order.{shown_in}
use Rattle.report_html.proofs.order.listed.Given as goal

abbrev pub invariant-loop-held : goal.invariant-loop-held
invariant-loop-held l = shown_in l.all.items ≡ take l.held-index l.records
