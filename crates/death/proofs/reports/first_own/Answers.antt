-- A line that is not the one is passed over; the line that ends the report, or the end of the text, leaves none. For
-- `first_own`.
use Rattle.std.proofs.Common.{Bool, false, true, cond, Option, Some, None, sym, ap, ◌∙◌}
use Rattle.death_spec.specs.Lines.{lines_from, kind}
use Rattle.death_spec.specs.Telling.{is_of_oops}
use Rattle.death_spec.specs.Reports.{is_own, first_where}
use Rattle.death.proofs.MarkedLines.{in_report, head_more, head_ended, head_none}
use Rattle.death.proofs.reports.first_own.Invariants.{ends}
use Rattle.death.proofs.reports.first_own.Goals as goal

pub lines-init : goal.lines-init
lines-init c =
    ap (λ b. first_where (λ line. is_own c.args.text.now c.args.stuck (kind c.args.text.now line) line)
    (in_report c.args.text.now (ends b) (lines_from c.args.text.now c.args.telling.next)))
    (ap is_of_oops (sym c.kind_by.ensures) ∙ sym c.is_of_oops-is_oops.ensures)

pub lines-preserved : goal.lines-preserved
lines-preserved c =
    head_more c.args.text.now (λ line. is_own c.args.text.now c.args.stuck (kind c.args.text.now line) line)
    (ends c.is_of_oops-is_oops.result) c.lines.at c.in-Some.line None _ None c.kind_by-mark.result c.is_own.result
    c.lines.invariant c.in-Some.ensures.line c.kind_by-mark.ensures
    (sym c.ends_report.ensures ∙ c.if-ends_report.false)
    (c.is_own.ensures ∙ ap (λ m. is_own c.args.text.now c.args.stuck m c.in-Some.line) c.kind_by-mark.ensures)
    (ap (λ b. cond b (Some c.in-Some.line) None) (sym c.if-is_own.false))

pub returns-then-ends_report : goal.returns-then-ends_report
returns-then-ends_report c =
    head_ended c.args.text.now (λ line. is_own c.args.text.now c.args.stuck (kind c.args.text.now line) line)
    (ends c.is_of_oops-is_oops.result) c.lines.at c.in-Some.line None _ c.kind_by-mark.result
    c.lines.invariant c.in-Some.ensures.line c.kind_by-mark.ensures (sym c.ends_report.ensures ∙ c.if-ends_report.true)

pub returns-then-is_own : goal.returns-then-is_own
returns-then-is_own c =
    sym (head_more c.args.text.now (λ line. is_own c.args.text.now c.args.stuck (kind c.args.text.now line) line)
    (ends c.is_of_oops-is_oops.result) c.lines.at c.in-Some.line None _ (Some c.in-Some.line) c.kind_by-mark.result
    c.is_own.result c.lines.invariant c.in-Some.ensures.line c.kind_by-mark.ensures
    (sym c.ends_report.ensures ∙ c.if-ends_report.false)
    (c.is_own.ensures ∙ ap (λ m. is_own c.args.text.now c.args.stuck m c.in-Some.line) c.kind_by-mark.ensures)
    (ap (λ b. cond b (Some c.in-Some.line) None) (sym c.if-is_own.true)))

pub returns : goal.returns
returns c =
    head_none c.args.text.now (λ line. is_own c.args.text.now c.args.stuck (kind c.args.text.now line) line)
    (ends c.is_of_oops-is_oops.result) c.lines.at None _ c.lines.invariant c.in_default.ensures.none
