-- One dump more
use Rattle.std.proofs.Common.{◌∙◌, List, ap, arith, sym, take}
use Rattle.std.proofs.lemmas.List.{take_all}
use Rattle.report_html.specs.declared.causes.Crash.{Crash}
use Rattle.report_html.specs.Causes.{CrashShown, firsts_of, rows_of, crashes_in}
use Rattle.report_html.proofs.Rows.{firsts-more}
use Rattle.report_html.proofs.causes.rows_of.Goals as goal

pub loop-crash-preserved : goal.loop-crash-preserved
loop-crash-preserved c =
    let crashes = c.args.crashes.now in
    let i = c.loop-crash.crash-index in
    c.in_ok-push_row.ensures (firsts_of (crashes_in (take i crashes))) c.loop-crash.invariant
    ∙ sym (ap (λ (fs : List CrashShown). take 15 fs)
    (firsts-more crashes i c.crash-item.result c.loop-crash-test.true c.crash-item.is))

pub returns : goal.returns
returns c =
    let past = c.loop-crash-test.false in
    c.loop-crash.invariant
    ∙ ap (λ (cs : List Crash). rows_of (crashes_in cs)) (take_all c.loop-crash.crash-index c.args.crashes.now (omega (arith, past)))
