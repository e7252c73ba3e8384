-- One digit more goes into the level, which is kept modulo 8. For the loop of `digits_level`.
use Rattle.std.proofs.Common.{◌+◌, ◌*◌, ◌%◌, drop, ap, sym, ◌∙◌, arith}
use Rattle.death_spec.specs.Lines.{digits_level}
use Rattle.death.proofs.Levels.{digit_more, digits_past}
use Rattle.death.proofs.lines.digits_level.Goals as goal

pub digits-preserved : goal.digits-preserved
digits-preserved c = (
  omega arith,
  c.digits.invariant.1
      ∙ digit_more c.args.digits.now c.digits.at c.digits.level c.digits-test.true
      ∙ ap (λ k. digits_level ((10 * c.digits.level + k) % 8) (drop (c.digits.at + 1) c.args.digits.now))
      (sym (c.from.ensures ∙ c.saturating_sub.ensures)),
)

pub returns : goal.returns
returns c =
    sym (c.digits.invariant.1 ∙ digits_past c.args.digits.now c.digits.at c.digits.level c.digits-test.false)
