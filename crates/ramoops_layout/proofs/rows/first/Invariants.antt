-- No fault that was passed over holds. For the loop of `first`.
use Rattle.std.proofs.Common.{◌≡◌, drop}
use Rattle.zone_spec.specs.Layout.{first_fault}
use Rattle.ramoops_layout.proofs.rows.first.Given as goal

-- no fault that was passed over holds
abbrev pub invariant-loop-holds : goal.invariant-loop-holds
invariant-loop-holds l = first_fault l.faults ≡ first_fault (drop l.holds-index l.faults)
