-- The lane is the rest of the first symbols. For the loop of `rest_in_lane`.
use Rattle.std.proofs.Common.{◌∷◌, [], ◌≤◌, ℕ, take}
use Rattle.rs_encode.specs.Lanes.{IsRest, IsTable}
use Rattle.rs_encode.proofs.rest_in_lane.Given as goal

abbrev pub invariant-loop-c : goal.invariant-loop-c
invariant-loop-c l = (r : ℕ) → r ≤ 16 → IsTable r l.rows → IsRest r (take l.c-index l.msg) (l.rest ∷ [])
