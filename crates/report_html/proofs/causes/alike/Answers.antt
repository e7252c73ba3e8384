-- One dump more
use Rattle.std.proofs.Common.{◌∙◌, List, ap, arith}
use Rattle.std.specs.Prelude.{filter}
use Rattle.std.proofs.lemmas.List.{take_all}
use Rattle.report_html.specs.declared.causes.Crash.{Crash}
use Rattle.report_html.specs.Causes.{has_line_of, crash_in, crashes_in}
use Rattle.report_html.proofs.Rows.{kept-more}
use Rattle.report_html.proofs.causes.alike.Goals as goal

pub loop-crash-preserved : goal.loop-crash-preserved
loop-crash-preserved c =
    kept-more (has_line_of (crash_in c.args.first.now)) c.args.crashes.now c.loop-crash.crash-index c.crash-item.result
    c.has_line_of.result (crashes_in c.loop-crash.alike.items) (crashes_in c.keep.new.kept.items) c.loop-crash-test.true
    c.crash-item.is c.loop-crash.invariant c.has_line_of.ensures c.in_ok-keep.ensures

pub returns : goal.returns
returns c =
    let past = c.loop-crash-test.false in
    c.loop-crash.invariant
    ∙ ap (λ (cs : List Crash). filter (has_line_of (crash_in c.args.first.now)) (crashes_in cs))
    (take_all c.loop-crash.crash-index c.args.crashes.now (omega (arith, past)))
