-- One power more is one factor more. For `product_at`.
use Rattle.std.proofs.Common.{ℕ, List, get_or, take, take_all, sym, ap, ap₂, ◌∙◌}
use Rattle.std.proofs.lemmas.List.{take_more}
use Rattle.code_spec.specs.Field.{gf_add, gf_mul}
use Rattle.salvage.specs.Sieves.{product}
use Rattle.salvage.proofs.BlockFactors.{product-none, product-push}
use Rattle.salvage.proofs.sieve.product_at.Goals as goal

pub loop-other-init : goal.loop-other-init
loop-other-init c = sym (product-none c.args.power)

pub loop-other-preserved : goal.loop-other-preserved
loop-other-preserved c =
    c.mul-value.ensures
    ∙ ap₂ gf_mul c.loop-other.invariant
    (c.add.ensures ∙ ap₂ gf_add c.alpha_pow.ensures c.alpha_pow-in-loop-other.ensures)
    ∙ sym (product-push (take c.loop-other.other-index c.args.others.now)
    (get_or c.args.others.now c.loop-other.other-index 0) c.args.power)
    ∙ ap (λ (ms : List ℕ). product ms c.args.power)
    (sym (take_more c.args.others.now c.loop-other.other-index 0 c.loop-other-test.true))

pub returns : goal.returns
returns c = c.loop-other.invariant ∙ ap (λ (ms : List ℕ). product ms c.args.power)
    (take_all c.loop-other.other-index c.args.others.now c.loop-other-test.false)
