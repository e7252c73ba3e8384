-- Sums of two errors are marked by their ratios. For `may_be_two`.
use Rattle.std.proofs.Common.{◌≡◌, ◌+◌, ◌*◌, ◌-◌, ℕ, get_or, sym, ap, ◌∙◌, arith, true, false}
use Rattle.code_spec.specs.Field.{gf_mul}
use Rattle.rs_encode.specs.Lanes.{digit}
use Rattle.salvage.specs.Sieves.{third}
use Rattle.salvage.proofs.Marks.{ratio}
use Rattle.salvage.proofs.sieve.may_be_two.Goals as goal

pub returns : goal.returns
returns c = λ h low end x y marks l b e z.
    let second_is : c.mul-second.result ≡ gf_mul c.inv-scale.result (digit c.args.lane 14) =
    c.mul-second.ensures ∙ ap (gf_mul c.inv-scale.result) c.byte_of.ensures in
    let third_is : c.mul.result ≡ third x y c.mul-second.result =
    c.mul.ensures ∙ ap (gf_mul c.inv-scale.result) c.byte_of-2.ensures
    ∙ ratio x y c.inv-scale.result (λ i. digit c.args.lane (15 - i))
    (ap (λ (n : ℕ). gf_mul n c.inv-scale.result) (sym c.byte_of-first.ensures) ∙ c.inv-scale.ensures) z
    ∙ ap (third x y) (sym second_is) in
    let at : c.mark_place.result ≡ 256 * c.mul-second.result + third x y c.mul-second.result =
    c.mark_place.ensures ∙ ap (λ (t : ℕ). 256 * c.mul-second.result + t) third_is in
    let bad : true ≡ false =
    sym (marks x y l b e c.mul-second.result (omega (arith, c.mul-second.type_inv)))
    ∙ sym (ap (λ (j : ℕ). get_or c.args.marks.now j false) at) ∙ h in cc
