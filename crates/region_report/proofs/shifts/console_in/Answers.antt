-- One record more is passed, or is the console's
use Rattle.std.proofs.Common.{◌∙◌, sym, arith}
use Rattle.region_report.proofs.ConsoleLogs.{log_found, log_passed, no_log}
use Rattle.region_report.proofs.shifts.console_in.Goals as goal

pub loop-held-preserved : goal.loop-held-preserved
loop-held-preserved c =
    log_passed c.args.records.now c.loop-held.held-index c.held-item.result c.loop-held-test.true c.held-item.is
    c.loop-held.invariant (sym c.is_console.ensures ∙ c.if-is_console.false)

pub returns-then-is_console : goal.returns-then-is_console
returns-then-is_console c =
    c.content.ensures
    ∙ log_found c.args.records.now c.loop-held.held-index c.held-item.result c.loop-held-test.true c.held-item.is
    c.loop-held.invariant (sym c.is_console.ensures ∙ c.if-is_console.true)

pub returns : goal.returns
returns c =
    let past = c.loop-held-test.false in
    no_log c.args.records.now c.loop-held.held-index (omega (arith, past)) c.loop-held.invariant
