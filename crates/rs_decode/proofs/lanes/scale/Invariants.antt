-- The symbols below `i` are scaled. For the loop of `scale`.
use Rattle.std.proofs.Common.{◌≡◌, ◌<◌, ◌-◌, ◌*◌, ℕ, length, get_or}
use Rattle.code_spec.specs.Field.{gf_mul, gf_pow}
use Rattle.rs_decode.proofs.lanes.scale.Given as goal

abbrev pub invariant-loop-i : goal.invariant-loop-i
invariant-loop-i l = (k : ℕ) → k < l.i → get_or l.out k 0
    ≡ gf_mul (get_or l.word k 0) (gf_pow 2 (l.log * (length l.word - 1 - k)))
