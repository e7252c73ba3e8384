-- The product so far, with the gaps of the locators left, is the whole ratio, and its logarithm
-- fits. For the loop of `ratio`.
use Rattle.std.proofs.Common.{◌≡◌, ◌≤◌, ◌*◌, drop}
use Rattle.code_spec.specs.Field.{gf_mul, gf_pow}
use Rattle.decoder_laws.specs.Forney.{gap_ratio}
use Rattle.rs_decode.proofs.forney.ratio.Given as goal

abbrev pub invariant-loop-i : goal.invariant-loop-i
invariant-loop-i l = record {
  fits : l.sum ≤ 254 * l.i-index;
  value : gf_mul (gf_pow 2 l.sum)
      (gap_ratio (drop l.i-index l.powers) l.power) ≡ gap_ratio l.powers l.power;
}
