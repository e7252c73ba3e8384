-- A mark that stands here decides; else it stands one byte further, or nowhere. For `place_of`.
use Rattle.std.proofs.Common.{◌∙◌, sym, ap, arith}
use Rattle.death_spec.specs.Marks.{begins}
use Rattle.death.proofs.Places.{here, behind, past}
use Rattle.death.proofs.marks.place_of.Goals as goal

pub returns-then-begins-clause-place : goal.returns-then-begins-clause-place
returns-then-begins-clause-place c =
    omega (
      arith,
      c.bytes.invariant.1,
      here c.args.mark c.args.text.now c.bytes.at c.bytes-test.true
          (ap (begins c.args.mark) (sym c.tail.ensures) ∙ sym c.begins.ensures ∙ c.if-begins.true),
    )

pub bytes-preserved : goal.bytes-preserved
bytes-preserved c = (
  omega (arith, c.bytes-test.true),
  omega (
    arith,
    c.bytes.invariant.1,
    behind c.args.mark c.args.text.now c.bytes.at c.bytes-test.true
        (ap (begins c.args.mark) (sym c.tail.ensures) ∙ sym c.begins.ensures ∙ c.if-begins.false),
  ),
)

pub returns-clause-place : goal.returns-clause-place
returns-clause-place c =
    omega (arith, c.bytes.invariant.1, past c.args.mark c.args.text.now c.bytes.at c.bytes-test.false)
