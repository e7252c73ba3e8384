-- The moved rest has the multiple of the generator added. For `move_rest`.
use Rattle.std.proofs.Common.{◌≡◌, ◌<◌, ℕ, ◌+◌, length, get_or, ap, ◌∙◌, arith}
use Rattle.code_spec.specs.Field.{gf_add, gf_mul}
use Rattle.rs_encode.proofs.move_rest.Goals as goal

pub returns : goal.returns
returns c = λ k l.
    let w = c.move_on.new.rest in
    let term : ℕ = gf_mul c.args.factor (get_or c.args.low.now k 0) in
    let from : 0 + k ≡ k = omega arith in
    let inside : k < length w = omega (arith, c.add_scaled.auto.word) in
    ap (λ (i : ℕ). get_or c.add_scaled.new.word i 0) (let e : k ≡ 0 + k = omega arith in e)
    ∙ c.add_scaled.ensures.rest k (omega (arith, c.requires, c.move_on.auto.rest, inside))
    ∙ ap (λ (i : ℕ). gf_add (get_or w i 0) term) from
    ∙ ap (λ (y : ℕ). gf_add y term) (c.move_on.ensures k inside)
