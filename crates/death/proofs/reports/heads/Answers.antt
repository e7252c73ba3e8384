-- A line of the report counts if none of its kind was found; the line that ends it, or the end of the text, leaves what
-- was found. For `heads`.
use Rattle.std.proofs.Common.{sym, ap, ◌∙◌}
use Rattle.death_spec.specs.declared.Mark.TheVariants.{Processor, Place, Link, Own}
use Rattle.death_spec.specs.Marks.{is_mark}
use Rattle.death_spec.specs.Lines.{said, is_a}
use Rattle.death_spec.specs.Reports.{ends_below}
use Rattle.death_spec.specs.Traces.{is_entry}
use Rattle.death.proofs.MarkedLines.{report_by, head_more, head_ended, head_none}
use Rattle.death.proofs.reports.heads.Goals as goal

pub lines-init : goal.lines-init
lines-init c = (
  report_by c.args.text.now (is_a c.args.text.now Processor)
      c.args.telling c.kind_by-head.result c.stuck_of-stuck.result c.begin_of-at.result c.kind_by-head.ensures
      c.stuck_of-stuck.ensures c.begin_of-at.ensures,
  report_by c.args.text.now (is_a c.args.text.now Place)
      c.args.telling c.kind_by-head.result c.stuck_of-stuck.result c.begin_of-at.result c.kind_by-head.ensures
      c.stuck_of-stuck.ensures c.begin_of-at.ensures,
  report_by c.args.text.now (is_a c.args.text.now Link)
      c.args.telling c.kind_by-head.result c.stuck_of-stuck.result c.begin_of-at.result c.kind_by-head.ensures
      c.stuck_of-stuck.ensures c.begin_of-at.ensures,
  report_by c.args.text.now (λ line. is_entry (said c.args.text.now line))
      c.args.telling c.kind_by-head.result c.stuck_of-stuck.result c.begin_of-at.result c.kind_by-head.ensures
      c.stuck_of-stuck.ensures c.begin_of-at.ensures,
  report_by c.args.text.now (is_a c.args.text.now Own)
      c.args.telling c.kind_by-head.result c.stuck_of-stuck.result c.begin_of-at.result c.kind_by-head.ensures
      c.stuck_of-stuck.ensures c.begin_of-at.ensures,
)

pub lines-preserved : goal.lines-preserved
lines-preserved c = (
  head_more c.args.text.now (is_a c.args.text.now Processor)
      (ends_below c.args.text.now c.kind_by-head.result c.stuck_of-stuck.result) c.lines.at c.in-Some.line
      c.lines.processor _
      c.earlier-processor.result c.kind_by-mark.result c.is_mark-is_processor.result c.lines.invariant.0
      c.in-Some.ensures.line
      c.kind_by-mark.ensures (sym c.ends_below.ensures ∙ c.if-ends_below.false)
      (c.is_mark-is_processor.ensures ∙ ap (is_mark Processor) c.kind_by-mark.ensures) c.earlier-processor.ensures,
  head_more c.args.text.now (is_a c.args.text.now Place)
      (ends_below c.args.text.now c.kind_by-head.result c.stuck_of-stuck.result) c.lines.at c.in-Some.line
      c.lines.place _
      c.earlier-place.result c.kind_by-mark.result c.is_mark-is_place.result c.lines.invariant.1 c.in-Some.ensures.line
      c.kind_by-mark.ensures (sym c.ends_below.ensures ∙ c.if-ends_below.false)
      (c.is_mark-is_place.ensures ∙ ap (is_mark Place) c.kind_by-mark.ensures) c.earlier-place.ensures,
  head_more c.args.text.now (is_a c.args.text.now Link)
      (ends_below c.args.text.now c.kind_by-head.result c.stuck_of-stuck.result) c.lines.at c.in-Some.line
      c.lines.link _
      c.earlier-link.result c.kind_by-mark.result c.is_mark-is_link.result c.lines.invariant.2 c.in-Some.ensures.line
      c.kind_by-mark.ensures (sym c.ends_below.ensures ∙ c.if-ends_below.false)
      (c.is_mark-is_link.ensures ∙ ap (is_mark Link) c.kind_by-mark.ensures) c.earlier-link.ensures,
  head_more c.args.text.now (λ line. is_entry (said c.args.text.now line))
      (ends_below c.args.text.now c.kind_by-head.result c.stuck_of-stuck.result) c.lines.at
      c.in-Some.line c.lines.entry _
      c.earlier-entry.result c.kind_by-mark.result c.is_entry-is_entry.result c.lines.invariant.3 c.in-Some.ensures.line
      c.kind_by-mark.ensures (sym c.ends_below.ensures ∙ c.if-ends_below.false)
      (c.is_entry-is_entry.ensures ∙ ap is_entry c.said-words.ensures.said) c.earlier-entry.ensures,
  head_more c.args.text.now (is_a c.args.text.now Own)
      (ends_below c.args.text.now c.kind_by-head.result c.stuck_of-stuck.result) c.lines.at c.in-Some.line
      c.lines.own _
      c.earlier-own.result c.kind_by-mark.result c.is_mark-is_own.result c.lines.invariant.4 c.in-Some.ensures.line
      c.kind_by-mark.ensures (sym c.ends_below.ensures ∙ c.if-ends_below.false)
      (c.is_mark-is_own.ensures ∙ ap (is_mark Own) c.kind_by-mark.ensures) c.earlier-own.ensures,
)

pub returns-then-ends_below-clause-processor : goal.returns-then-ends_below-clause-processor
returns-then-ends_below-clause-processor c =
    head_ended c.args.text.now (is_a c.args.text.now Processor)
    (ends_below c.args.text.now c.kind_by-head.result c.stuck_of-stuck.result) c.lines.at c.in-Some.line
    c.lines.processor _
    c.kind_by-mark.result c.lines.invariant.0 c.in-Some.ensures.line c.kind_by-mark.ensures
    (sym c.ends_below.ensures ∙ c.if-ends_below.true)

pub returns-then-ends_below-clause-place : goal.returns-then-ends_below-clause-place
returns-then-ends_below-clause-place c =
    head_ended c.args.text.now (is_a c.args.text.now Place)
    (ends_below c.args.text.now c.kind_by-head.result c.stuck_of-stuck.result) c.lines.at c.in-Some.line
    c.lines.place _
    c.kind_by-mark.result c.lines.invariant.1 c.in-Some.ensures.line c.kind_by-mark.ensures
    (sym c.ends_below.ensures ∙ c.if-ends_below.true)

pub returns-then-ends_below-clause-link : goal.returns-then-ends_below-clause-link
returns-then-ends_below-clause-link c =
    head_ended c.args.text.now (is_a c.args.text.now Link)
    (ends_below c.args.text.now c.kind_by-head.result c.stuck_of-stuck.result) c.lines.at c.in-Some.line
    c.lines.link _
    c.kind_by-mark.result c.lines.invariant.2 c.in-Some.ensures.line c.kind_by-mark.ensures
    (sym c.ends_below.ensures ∙ c.if-ends_below.true)

pub returns-then-ends_below-clause-entry : goal.returns-then-ends_below-clause-entry
returns-then-ends_below-clause-entry c =
    head_ended c.args.text.now (λ line. is_entry (said c.args.text.now line))
    (ends_below c.args.text.now c.kind_by-head.result c.stuck_of-stuck.result) c.lines.at
    c.in-Some.line c.lines.entry _
    c.kind_by-mark.result c.lines.invariant.3 c.in-Some.ensures.line c.kind_by-mark.ensures
    (sym c.ends_below.ensures ∙ c.if-ends_below.true)

pub returns-in_default-clause-processor : goal.returns-in_default-clause-processor
returns-in_default-clause-processor c =
    head_none c.args.text.now (is_a c.args.text.now Processor)
    (ends_below c.args.text.now c.kind_by-head.result c.stuck_of-stuck.result) c.lines.at c.lines.processor
    _ c.lines.invariant.0
    c.in_default.ensures.none

pub returns-in_default-clause-place : goal.returns-in_default-clause-place
returns-in_default-clause-place c =
    head_none c.args.text.now (is_a c.args.text.now Place)
    (ends_below c.args.text.now c.kind_by-head.result c.stuck_of-stuck.result) c.lines.at c.lines.place _
    c.lines.invariant.1
    c.in_default.ensures.none

pub returns-in_default-clause-link : goal.returns-in_default-clause-link
returns-in_default-clause-link c =
    head_none c.args.text.now (is_a c.args.text.now Link)
    (ends_below c.args.text.now c.kind_by-head.result c.stuck_of-stuck.result) c.lines.at c.lines.link _
    c.lines.invariant.2
    c.in_default.ensures.none

pub returns-in_default-clause-entry : goal.returns-in_default-clause-entry
returns-in_default-clause-entry c =
    head_none c.args.text.now (λ line. is_entry (said c.args.text.now line))
    (ends_below c.args.text.now c.kind_by-head.result c.stuck_of-stuck.result) c.lines.at
    c.lines.entry _ c.lines.invariant.3
    c.in_default.ensures.none

pub returns-then-ends_below-clause-own : goal.returns-then-ends_below-clause-own
returns-then-ends_below-clause-own c =
    head_ended c.args.text.now (is_a c.args.text.now Own)
    (ends_below c.args.text.now c.kind_by-head.result c.stuck_of-stuck.result) c.lines.at c.in-Some.line
    c.lines.own _
    c.kind_by-mark.result c.lines.invariant.4 c.in-Some.ensures.line c.kind_by-mark.ensures
    (sym c.ends_below.ensures ∙ c.if-ends_below.true)

pub returns-in_default-clause-own : goal.returns-in_default-clause-own
returns-in_default-clause-own c =
    head_none c.args.text.now (is_a c.args.text.now Own)
    (ends_below c.args.text.now c.kind_by-head.result c.stuck_of-stuck.result) c.lines.at c.lines.own _
    c.lines.invariant.4
    c.in_default.ensures.none
