-- One dump more
use Rattle.std.proofs.Common.{◌∙◌, List, ap, arith}
use Rattle.std.proofs.lemmas.List.{take_all}
use Rattle.report_spec.specs.Packed.{RecordShown}
use Rattle.report_html.specs.Causes.{crashes_of, crashes_in}
use Rattle.report_html.proofs.Rows.{records-more}
use Rattle.report_html.proofs.causes.crashes_of.Goals as goal

pub loop-entry-preserved : goal.loop-entry-preserved
loop-entry-preserved c =
    records-more c.args.records.now c.loop-entry.entry-index c.entry-item.result (crashes_in c.loop-entry.crashes.items)
    (crashes_in c.push_dump.new.crashes.items) c.loop-entry-test.true c.entry-item.is c.loop-entry.invariant
    c.in_ok-push_dump.ensures

pub returns : goal.returns
returns c =
    let past = c.loop-entry-test.false in
    c.loop-entry.invariant
    ∙ ap (λ (rs : List RecordShown). crashes_of rs) (take_all c.loop-entry.entry-index c.args.records.now (omega (arith, past)))
