-- The zones so far lie in the same places.
use Rattle.std.proofs.Common.{◌≡◌, ℕ, ◌<◌, Some}
use Rattle.std.specs.Prelude.{slice_get}
use Rattle.zone_spec.specs.declared.Zone.{Zone}
use Rattle.report_entry.specs.Hints.{LiesAs}
use Rattle.report_entry.proofs.hints.lie_alike.Given as goal

abbrev pub invariant-loop-i : goal.invariant-loop-i
invariant-loop-i l = (k : ℕ) (z w : Zone) → k < l.i → slice_get l.one k ≡ Some z → slice_get l.other k ≡ Some w
    → LiesAs z w
