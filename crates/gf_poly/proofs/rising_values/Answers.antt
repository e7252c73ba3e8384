-- Values that begin as zero end as those of the word alone. For `rising_values`.
use Rattle.std.proofs.Common.{ℕ, ◌+◌, List, length, get_or, ap, ◌∙◌, arith}
use Rattle.std.proofs.lemmas.List.{get_or-replicate}
use Rattle.code_spec.specs.Field.{gf_pow}
use Rattle.code_laws.proofs.Values.{values_alone}
use Rattle.gf_poly.proofs.rising_values.Goals as goal

pub returns : goal.returns
returns c = λ k l.
    values_alone (get_or c.fill.new.self k 0) (gf_pow 2 (c.args.log + k)) (get_or c.rising_values_on.new.values k 0)
    c.args.word.now
    (ap (λ (w : List ℕ). get_or w k 0) (c.fill.ensures.after (λ y e. e))
    ∙ get_or-replicate (length c.args.out.now) k 0 0 (omega arith))
    (c.rising_values_on.ensures k l)
