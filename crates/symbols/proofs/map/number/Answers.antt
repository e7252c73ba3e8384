-- One digit more is read into the number, and after the last one the number is whole. For
-- `number`.
use Rattle.std.proofs.Common.{ap, sym, ◌∙◌, arith, drop, ◌+◌}
use Rattle.symbol_spec.specs.Maps.{number_after}
use Rattle.symbols.proofs.Steps.{number_more, number_end}
use Rattle.symbols.proofs.map.number.Goals as goal

pub digits-preserved : goal.digits-preserved
digits-preserved c = (
  omega (arith, c.digits-test.true),
  c.digits.invariant.1
      ∙ number_more c.digits.number c.digits.at c.args.digits.now c.digits-test.true
      ∙ ap (λ n. number_after n (drop (c.digits.at + 1) c.args.digits.now)) (sym c.number_with-number.ensures),
)

pub returns : goal.returns
returns c =
    sym (c.digits.invariant.1 ∙ number_end c.digits.number c.digits.at c.args.digits.now c.digits-test.false)
