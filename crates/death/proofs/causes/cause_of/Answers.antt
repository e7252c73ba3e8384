-- The words of the panic say which report above it counts. For `cause_of`.
use Rattle.std.proofs.Common.{cond, ap, sym, ◌∙◌}
use Rattle.std.specs.Prelude.{None}
use Rattle.death_spec.specs.Lines.{said}
use Rattle.death_spec.specs.Telling.{is_panic}
use Rattle.death_spec.specs.Causes.{cause_rows, cause_in, report_above, cause_of}
use Rattle.death.proofs.causes.cause_of.Goals as goal

pub returns-then-is_panic : goal.returns-then-is_panic
unfolding cause_of
returns-then-is_panic c =
    c.report_above.ensures
    ∙ ap (report_above c.args.text.now c.args.line)
    (c.cause_in.ensures ∙ ap (cause_in cause_rows) c.said.ensures.said)
    ∙ sym (ap (λ t. cond t (report_above c.args.text.now c.args.line
    (cause_in cause_rows (said c.args.text.now c.args.line))) None)
    (ap is_panic (sym c.kind.ensures) ∙ sym c.is_panic.ensures ∙ c.if-is_panic.true))
