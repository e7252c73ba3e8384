-- Each lane is the rest of its message's first symbols. For the loop of `rest_pair`.
use Rattle.std.proofs.Common.{◌∷◌, [], ◌≤◌, ℕ, take}
use Rattle.rs_encode.specs.Lanes.{IsRest, IsTable}
use Rattle.rs_encode.proofs.rest_pair.Given as goal

abbrev pub invariant-loop-i : goal.invariant-loop-i
invariant-loop-i l = record {
  a : (r : ℕ) → r ≤ 16 → IsTable r l.rows → IsRest r (take l.i l.a) (l.rest_a ∷ []);
  b : (r : ℕ) → r ≤ 16 → IsTable r l.rows → IsRest r (take l.i l.b) (l.rest_b ∷ []);
}
