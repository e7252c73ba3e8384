-- Words that stand here decide; else they stand one byte further, or nowhere. For `place_of_words`.
use Rattle.std.proofs.Common.{nat_eq, ◌∙◌, sym, ap, arith}
use Rattle.std.specs.List.{starts_with}
use Rattle.death.proofs.Names.{words_here, words_behind, words_past}
use Rattle.death.proofs.signatures.place_of_words.Goals as goal

pub returns-then-starts_with-clause-place : goal.returns-then-starts_with-clause-place
returns-then-starts_with-clause-place c =
    omega (
      arith,
      c.bytes.invariant.1,
      words_here c.args.words.now c.args.text.now c.bytes.at c.bytes-test.true
          (ap (λ rest. starts_with nat_eq rest c.args.words.now) (sym c.tail.ensures)
          ∙ sym c.starts_with.ensures ∙ c.if-starts_with.true),
    )

pub bytes-preserved : goal.bytes-preserved
bytes-preserved c = (
  omega (arith, c.bytes-test.true),
  omega (
    arith,
    c.bytes.invariant.1,
    words_behind c.args.words.now c.args.text.now c.bytes.at c.bytes-test.true
        (ap (λ rest. starts_with nat_eq rest c.args.words.now) (sym c.tail.ensures)
        ∙ sym c.starts_with.ensures ∙ c.if-starts_with.false),
  ),
)

pub returns-clause-place : goal.returns-clause-place
returns-clause-place c =
    omega (arith, c.bytes.invariant.1, words_past c.args.words.now c.args.text.now c.bytes.at c.bytes-test.false)
