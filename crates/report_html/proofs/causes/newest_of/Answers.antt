-- One dump more
use Rattle.std.proofs.Common.{◌∙◌, List, map, ap, arith}
use Rattle.std.specs.Option.{option_copied}
use Rattle.std.proofs.lemmas.List.{take_all}
use Rattle.report_spec.specs.Newest.{newest}
use Rattle.report_html.specs.declared.causes.Crash.{Crash}
use Rattle.report_html.specs.Causes.{CrashShown, crashes_in}
use Rattle.report_html.proofs.Rows.{newest-more}
use Rattle.report_html.proofs.causes.newest_of.Goals as goal

pub loop-crash-preserved : goal.loop-crash-preserved
loop-crash-preserved c =
    newest-more c.args.crashes.now c.loop-crash.crash-index c.crash-item.result (option_copied c.loop-crash.held)
    (option_copied c.newer-held.result) c.loop-crash-test.true c.crash-item.is c.loop-crash.invariant
    c.newer-held.ensures

pub returns : goal.returns
returns c =
    let past = c.loop-crash-test.false in
    c.loop-crash.invariant
    ∙ ap (λ (cs : List Crash). newest (map (λ (d : CrashShown). d.dump) (crashes_in cs)))
    (take_all c.loop-crash.crash-index c.args.crashes.now (omega (arith, past)))
