-- The lane, with the values of the symbols left, has those of the word. For the loop of `value_lane`.
use Rattle.std.proofs.Common.{◌≡◌, ◌+◌, ℕ, drop}
use Rattle.code_spec.specs.Field.{gf_add, gf_pow}
use Rattle.code_spec.specs.Code.{value_of}
use Rattle.rs_encode.specs.Lanes.{digit}
use Rattle.rs_decode.proofs.lanes.value_lane.Given as goal

abbrev pub invariant-loop-i : goal.invariant-loop-i
invariant-loop-i l = (k p : ℕ) → k + p ≡ 15
    → gf_add (digit l.lane p) (value_of (drop l.i l.word) (gf_pow 2 k)) ≡ value_of l.word (gf_pow 2 k)
