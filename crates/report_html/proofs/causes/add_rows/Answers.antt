-- One row more
use Rattle.std.proofs.Common.{◌∙◌, ◌++◌, List, ap, arith}
use Rattle.std.specs.Prelude.{flat_map}
use Rattle.std.proofs.lemmas.List.{take_all}
use Rattle.report_html.specs.declared.causes.Crash.{Crash}
use Rattle.report_html.specs.Pieces.{parts}
use Rattle.report_html.specs.Causes.{cause_parts, crashes_in}
use Rattle.report_html.proofs.Rows.{parts-more}
use Rattle.report_html.proofs.causes.add_rows.Goals as goal

pub loop-row-preserved : goal.loop-row-preserved
loop-row-preserved c =
    parts-more (cause_parts (crashes_in c.args.crashes.now)) c.args.rows.now c.loop-row.row-index c.row-item.result
    (parts c.args.pieces.now.items) (parts c.loop-row.pieces.items) (parts c.add_cause.new.pieces.items)
    c.loop-row-test.true c.row-item.is c.loop-row.invariant c.in_ok-add_cause.ensures

pub returns : goal.returns
returns c =
    let past = c.loop-row-test.false in
    c.loop-row.invariant
    ∙ ap (λ (cs : List Crash). parts c.args.pieces.now.items
    ++ flat_map (cause_parts (crashes_in c.args.crashes.now)) (crashes_in cs))
    (take_all c.loop-row.row-index c.args.rows.now (omega (arith, past)))
