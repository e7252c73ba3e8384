-- The lanes are the rest of the first symbols. For the loop of `rest_by`.
use Rattle.std.proofs.Common.{◌≡◌, ◌+◌, ◌*◌, ◌^◌, ◌≤◌, ◌<◌, ℕ, length, get_or, take}
use Rattle.rs_encode.specs.Lanes.{IsRest, IsTable}
use Rattle.rs_encode.proofs.rest_by.Given as goal

abbrev pub invariant-loop-c : goal.invariant-loop-c
invariant-loop-c l = record {
  len : length l.lanes ≡ 9;
  fits : (j : ℕ) → get_or l.lanes j 0 < 2 ^ 128;
  rest : (r : ℕ) → 16 < r → r ≤ 16 * l.count → 16 * l.count < r + 16 → IsTable r l.rows
      → IsRest r (take l.c-index l.msg) l.lanes;
}
