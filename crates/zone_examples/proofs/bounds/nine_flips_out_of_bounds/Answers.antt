-- The row `nine_flips_out_of_bounds`: damage of more than half the parity is out of bounds.
-- Computed with `Given` and `SixteenParityBytes`.
use Rattle.std.proofs.Common.{◌≡◌, ◌++◌, ◌≤◌, ℕ, List, [], replicate, refl, sym, ap, ◌∙◌, subst, arith, inl, inr}
use Rattle.std.proofs.Common.{slice_index, Some, unwrap_or}
use Rattle.code_spec.specs.Code.{distance, nearest}
use Rattle.zone_spec.specs.Parts.{Block, part_word}
use Rattle.zone_spec.specs.Damage.{IsWithinBounds}
use Rattle.zone_examples.specs.Zones.{console_of_sixteen}
use Rattle.zone_examples.specs.Damage.{flipped_from, nine_masks}
use Rattle.zone_examples.proofs.Unfoldings.{computing}
use Rattle.zone_examples.proofs.Given.{given_nearest}
use Rattle.zone_examples.proofs.SixteenParityBytes.{two_hundred, two_hundred-is, first_parity, nine_flipped}
use Rattle.zone_examples.proofs.bounds.nine_flips_out_of_bounds.Goals as goal

abbrev stood : List ℕ
stood = replicate 128 0x61 ++ first_parity

stood-is : nearest 16 (part_word console_of_sixteen two_hundred (Block 0)) ≡ Some stood
unfolding computing
stood-is = given_nearest 16 (part_word console_of_sixteen two_hundred (Block 0)) stood refl

nine : distance (part_word console_of_sixteen nine_flipped (Block 0)) stood ≡ 9
unfolding computing
nine = refl

first_now : slice_index (part_word console_of_sixteen nine_flipped (Block 0)) 0 ≡ 0x60
unfolding computing
first_now = refl

first_then : slice_index (part_word console_of_sixteen two_hundred (Block 0)) 0 ≡ 0x61
unfolding computing
first_then = refl

out : IsWithinBounds console_of_sixteen two_hundred nine_flipped (Block 0) → ⊥
out (inl near) =
    let same : near.0 ≡ stood = ap (λ o. unwrap_or o []) (sym near.1 ∙ stood-is) in
    let within : distance (part_word console_of_sixteen nine_flipped (Block 0)) near.0 ≤ 8 = near.2 in
    let far : distance (part_word console_of_sixteen nine_flipped (Block 0)) near.0 ≡ 9 =
    ap (distance (part_word console_of_sixteen nine_flipped (Block 0))) same ∙ nine in
    omega (arith, within, far)
out (inr same) =
    let e : ◌≡◌ {A = ℕ} 0x60 0x61 = sym first_now ∙ ap (λ w. slice_index w 0) same ∙ first_then in
    omega (arith, e)

pub returns : goal.returns
returns c = subst (λ stop. IsWithinBounds console_of_sixteen stop (flipped_from 12 nine_masks stop) (Block 0) → ⊥)
    (sym two_hundred-is) out
