-- No ring stands at the places passed. For the loop of `first_from`.
use Rattle.std.proofs.Common.{◌≡◌}
use Rattle.salvage.specs.Scans.{rings_from}
use Rattle.salvage.proofs.scan.first_from.Given as goal

abbrev pub invariant-loop-present : goal.invariant-loop-present
invariant-loop-present l = rings_from l.dump l.shapes l.place l.index ≡ rings_from l.dump l.shapes l.present l.start
