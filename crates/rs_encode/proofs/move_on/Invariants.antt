-- The symbols below `k` are moved on, the rest stands as before. For the loop of `move_on`.
use Rattle.std.proofs.Common.{◌≡◌, ◌<◌, ◌≤◌, ◌+◌, ℕ, get_or, length}
use Rattle.rs_encode.proofs.move_on.Given as goal

abbrev pub invariant-loop-k : goal.invariant-loop-k
invariant-loop-k l = record {
  len : length l.rest ≡ length l.fn.rest;
  done : (j : ℕ) → j < l.k → get_or l.rest j 0 ≡ get_or l.fn.rest (j + 1) 0;
  rest : (j : ℕ) → l.k ≤ j → get_or l.rest j 0 ≡ get_or l.fn.rest j 0;
}
