-- An offset that begins here decides; else it begins further on, or nowhere. For `named_from`.
use Rattle.std.proofs.Common.{◌+◌, drop, ap, sym, ◌∙◌, arith}
use Rattle.death_spec.specs.Marks.{begins}
use Rattle.death_spec.specs.declared.Mark.TheVariants.{Offset}
use Rattle.death_spec.specs.Reports.{named_from}
use Rattle.death.proofs.Stands.{start_within, named_yes, named_no, named_none}
use Rattle.death.proofs.reports.named_from.Goals as goal

pub returns-then-begins-clause-from : goal.returns-then-begins-clause-from
returns-then-begins-clause-from c =
    sym (c.bytes.invariant.1
    ∙ named_yes c.args.words.now c.bytes.at c.bytes.start c.bytes-test.true
    (ap (begins Offset) (sym c.tail.ensures) ∙ sym c.begins.ensures ∙ c.if-begins.true))

pub bytes-preserved : goal.bytes-preserved
bytes-preserved c = (
  start_within _ c.bytes.at c.bytes.start c.start_at-start.result c.bytes.invariant.0 c.start_at-start.ensures,
  c.bytes.invariant.1
      ∙ named_no c.args.words.now c.bytes.at c.bytes.start c.bytes-test.true
      (ap (begins Offset) (sym c.tail.ensures) ∙ sym c.begins.ensures ∙ c.if-begins.false)
      ∙ ap (λ s. named_from (c.bytes.at + 1) s (drop (c.bytes.at + 1) c.args.words.now)) (sym c.start_at-start.ensures),
)

pub returns-clause-from : goal.returns-clause-from
returns-clause-from c =
    sym (c.bytes.invariant.1
    ∙ named_none c.args.words.now c.bytes.at c.bytes.start (omega (arith, c.bytes-test.false)))
