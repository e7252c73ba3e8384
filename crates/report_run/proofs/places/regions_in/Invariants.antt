-- The regions among what was found so far
use Rattle.std.proofs.Common.{◌≡◌, take}
use Rattle.report_run.specs.Places.{regions_in}
use Rattle.report_run.proofs.places.regions_in.Given as goal

abbrev pub invariant-loop-finding : goal.invariant-loop-finding
invariant-loop-finding l = l.regions.items ≡ regions_in (take l.finding-index l.findings)
