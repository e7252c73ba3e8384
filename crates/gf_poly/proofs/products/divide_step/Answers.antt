-- The factor makes the first coefficient zero, so that it can go. For `divide_step`.
use Rattle.std.proofs.Common.{◌≡◌, ℕ, ◌<◌, List, ◌++◌, length, get_or, take, drop, remove, sym, ap, ◌∙◌, arith}
use Rattle.code_spec.specs.Field.{gf_add, gf_mul}
use Rattle.code_laws.proofs.Ring.{mul_comm, mul_assoc, mul_one, add_self}
use Rattle.decoder_laws.specs.Series.{plus, scale}
use Rattle.decoder_laws.specs.Polynomials.{poly}
use Rattle.gf_poly.proofs.Coefficients.{poly-added_at, poly-remove_zero, refill_same}
use Rattle.gf_poly.proofs.products.divide_step.Goals as goal

leading_gone : (r v b f n : ℕ) → r < 256 → gf_mul b v ≡ 1 → f ≡ gf_mul r v → n ≡ gf_add r (gf_mul f b) → n ≡ 0
leading_gone r v b f n l e ef en =
    en ∙ ap (λ (x : ℕ). gf_add r (gf_mul x b)) ef ∙ ap (gf_add r)
    (mul_assoc r v b ∙ ap (gf_mul r) (mul_comm v b ∙ e) ∙ mul_one r l) ∙ add_self r

pub returns-clause-rest : goal.returns-clause-rest
returns-clause-rest c =
    let n : List ℕ = c.add_scaled.new.word in
    let m : List ℕ = c.as_mut_slice.result.now in
    let b : List ℕ = c.args.b.now in
    let ln : length n ≡ length m = omega arith in
    let whole : take (length c.args.rest.now.items) (n ++ drop (length n) c.args.rest.now.items) ≡ n =
    refill_same c.args.rest.now.items n (ln ∙ ap length c.as_mut_slice.ensures.value) in
    let f : c.first-leading.result ≡ get_or m 0 0 = c.first-leading.ensures
    ∙ ap (λ (u : List ℕ). get_or u 0 0) (c.as_slice.ensures.value ∙ sym c.as_mut_slice.ensures.value) in
    let e0 : get_or n 0 0 ≡ 0 =
    leading_gone c.first-leading.result c.args.inverse (get_or b 0 0) c.mul-factor.result (get_or n 0 0)
    c.first-leading.type_inv c.requires.inverse c.mul-factor.ensures
    (c.add_scaled.ensures.rest 0 c.requires.some ∙ ap (λ (x : ℕ). gf_add x
    (gf_mul c.mul-factor.result (get_or b 0 0))) (sym f)) in
    ap poly c.remove.ensures.items ∙ ap (λ (u : List ℕ). poly (remove u 0)) whole ∙ poly-remove_zero n e0
    ∙ poly-added_at 0 c.mul-factor.result n m b ln (omega
    (arith, c.requires.len, ap length c.as_mut_slice.ensures.value))
    c.add_scaled.ensures.front c.add_scaled.ensures.rest
    ∙ ap (λ (u : List ℕ). plus (poly u) (scale c.mul-factor.result (poly b))) c.as_mut_slice.ensures.value
