-- The first `i` zones are passed as the limit allows, each with its note, and there is room for
-- the rest. For the loop of `settle_part`.
use Rattle.std.proofs.Common.{◌≤◌, length}
use Rattle.std.specs.Vec.{vec_capacity}
use Rattle.ramoops_layout.specs.Laid.{zones_of}
use Rattle.ramoops.specs.Parting.{PartsTo}
use Rattle.ramoops.proofs.booting.settle_part.Given as goal

abbrev pub invariant-loop-i : goal.invariant-loop-i
invariant-loop-i l = record {
  parts : PartsTo (zones_of l.layout) l.initial.spans l.spans l.limit l.i l.progress l.passed.items;
  room : length (zones_of l.layout) ≤ vec_capacity l.passed;
}
