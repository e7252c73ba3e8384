-- The row `eight_flips_within_bounds`: damage of half the parity is within bounds. Computed with
-- `Given` and `SixteenParityBytes`.
use Rattle.std.proofs.Common.{replicate, refl, sym, subst, arith, inl}
use Rattle.zone_spec.specs.Parts.{Block, part_word}
use Rattle.zone_spec.specs.Damage.{IsWithinBounds}
use Rattle.zone_examples.specs.Zones.{console_of_sixteen}
use Rattle.zone_examples.specs.Damage.{flipped_from}
use Rattle.zone_examples.proofs.Unfoldings.{computing}
use Rattle.zone_examples.proofs.Given.{given_nearest}
use Rattle.zone_examples.proofs.SixteenParityBytes.{three, three-is, abc_block, block_flipped}
use Rattle.zone_examples.proofs.bounds.eight_flips_within_bounds.Goals as goal

within : IsWithinBounds console_of_sixteen three block_flipped (Block 0)
unfolding computing
within = inl (abc_block, given_nearest 16 (part_word console_of_sixteen three (Block 0)) abc_block refl, omega arith)

pub returns : goal.returns
returns c = subst (λ stop. IsWithinBounds console_of_sixteen stop (flipped_from 12 (replicate 8 1) stop) (Block 0))
    (sym three-is) within
