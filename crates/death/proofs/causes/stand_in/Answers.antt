-- Words that stand here decide; else they stand further on, or nowhere. For `stand_in`.
use Rattle.std.proofs.Common.{nat_eq, ap, sym, ◌∙◌, arith}
use Rattle.std.specs.List.{starts_with}
use Rattle.death.proofs.Stands.{stand_yes, stand_no, stand_none}
use Rattle.death.proofs.causes.stand_in.Goals as goal

pub returns-then-starts_with : goal.returns-then-starts_with
returns-then-starts_with c =
    sym (c.bytes.invariant.1
    ∙ stand_yes c.args.words.now c.args.text.now c.bytes.at c.bytes-test.true
    (ap (λ rest. starts_with nat_eq rest c.args.words.now) (sym c.tail.ensures)
    ∙ sym c.starts_with.ensures ∙ c.if-starts_with.true))

pub bytes-preserved : goal.bytes-preserved
bytes-preserved c = (
  omega (arith, c.bytes-test.true),
  c.bytes.invariant.1
      ∙ stand_no c.args.words.now c.args.text.now c.bytes.at c.bytes-test.true
      (ap (λ rest. starts_with nat_eq rest c.args.words.now) (sym c.tail.ensures)
      ∙ sym c.starts_with.ensures ∙ c.if-starts_with.false),
)

pub returns : goal.returns
returns c =
    sym (c.bytes.invariant.1
    ∙ stand_none c.args.words.now c.args.text.now c.bytes.at (omega (arith, c.bytes-test.false)))
