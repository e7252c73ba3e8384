-- The old row is reduced by a multiple of the new one, with `k` leading zeros and its room kept.
-- For the loop of `reduce`.
use Rattle.std.proofs.Common.{◌+◌, ◌-◌, length}
use Rattle.decoder_laws.specs.Polynomials.{poly, LeadingZeros}
use Rattle.decoder_laws.specs.Euclid.{IsStep}
use Rattle.rs_decode.proofs.euclid.reduce.Given as goal

abbrev pub invariant-loop-k : goal.invariant-loop-k
invariant-loop-k l = record {
  step : IsStep (poly l.fn.old_rest) (poly l.fn.old_factor) (poly l.new_rest) (poly l.new_factor)
      (poly l.old_rest) (poly l.old_factor);
  zeros : LeadingZeros l.k l.old_rest;
  room : LeadingZeros (length l.new_factor + 14 - l.to) l.old_factor;
}
