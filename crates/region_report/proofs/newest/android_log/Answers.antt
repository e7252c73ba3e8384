-- Each record is the log or is passed
use Rattle.std.proofs.Common.{◌∙◌, sym, arith}
use Rattle.report_spec.specs.Packed.{RecordShown}
use Rattle.region_report.proofs.AndroidLogs.{log-here, log-behind, no-log}
use Rattle.region_report.proofs.newest.android_log.Goals as goal

pub returns-then-has_entries : goal.returns-then-has_entries
returns-then-has_entries c =
    let x : RecordShown = c.entry-item.result in
    log-here c.args.records.now c.loop-entry.entry-index x c.loop-entry-test.true c.entry-item.is
    c.loop-entry.invariant (sym c.has_entries.ensures ∙ c.if-has_entries.true)

pub loop-entry-preserved : goal.loop-entry-preserved
loop-entry-preserved c =
    let x : RecordShown = c.entry-item.result in
    log-behind c.args.records.now c.loop-entry.entry-index x c.loop-entry-test.true c.entry-item.is
    c.loop-entry.invariant (sym c.has_entries.ensures ∙ c.if-has_entries.false)

pub returns : goal.returns
returns c =
    no-log c.args.records.now c.loop-entry.entry-index (let past = c.loop-entry-test.false in omega (arith, past))
    c.loop-entry.invariant
