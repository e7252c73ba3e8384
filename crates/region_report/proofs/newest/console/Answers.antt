-- Each record is the console or is passed
use Rattle.std.proofs.Common.{◌∙◌, sym, arith}
use Rattle.report_spec.specs.Packed.{RecordShown}
use Rattle.region_report.proofs.Consoles.{console-here, console-behind, no-console}
use Rattle.region_report.proofs.newest.console.Goals as goal

pub returns-then-is_console : goal.returns-then-is_console
returns-then-is_console c =
    let x : RecordShown = c.entry-item.result in
    console-here c.args.records.now c.loop-entry.entry-index x c.loop-entry-test.true c.entry-item.is
    c.loop-entry.invariant (sym c.is_console.ensures ∙ c.if-is_console.true)

pub loop-entry-preserved : goal.loop-entry-preserved
loop-entry-preserved c =
    let x : RecordShown = c.entry-item.result in
    console-behind c.args.records.now c.loop-entry.entry-index x c.loop-entry-test.true c.entry-item.is
    c.loop-entry.invariant (sym c.is_console.ensures ∙ c.if-is_console.false)

pub returns : goal.returns
returns c =
    no-console c.args.records.now c.loop-entry.entry-index (let past = c.loop-entry-test.false in omega (arith, past))
    c.loop-entry.invariant
