-- The third sum by the steps. For `third`.
use Rattle.std.proofs.Common.{ap, ap₂, ◌∙◌}
use Rattle.code_spec.specs.Field.{gf_add, gf_mul}
use Rattle.salvage.specs.Sieves.{third}
use Rattle.salvage.proofs.sieve.third.Goals as goal

pub returns : goal.returns
unfolding third
returns c =
    c.add-2.ensures
    ∙ ap₂ gf_add (c.mul.ensures ∙ ap (λ x. gf_mul x c.args.second) c.alpha_pow-x.ensures)
    (c.mul-2.ensures
    ∙ ap₂ gf_mul c.alpha_pow.ensures (c.add.ensures ∙ ap (gf_add c.args.second) c.alpha_pow-x.ensures))
