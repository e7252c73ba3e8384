-- One record more. For `told_before`.
use Rattle.std.proofs.Common.{◌∙◌, ◌+◌, List, take, sym, ap, subst, arith}
use Rattle.std.specs.Prelude.{Option}
use Rattle.std.proofs.lemmas.List.{take_all}
use Rattle.report_spec.specs.Packed.{RecordShown}
use Rattle.report_spec.specs.Deaths.{DeathTold}
use Rattle.region_report.specs.Tellers.{told_in}
use Rattle.report_html.specs.Before.{told_before}
use Rattle.report_html.proofs.Earlier.{Held, next}
use Rattle.report_html.proofs.before.told_before.Goals as goal

pub loop-entry-preserved : goal.loop-entry-preserved
loop-entry-preserved c =
    let x : RecordShown = c.entry-item.result in
    subst (λ (held : Option DeathTold). Held c.args.name held (take (c.loop-entry.entry-index + 1) c.args.records.now)) (sym c.newer_told-before.ensures)
    (next c.args.name c.args.records.now c.loop-entry.entry-index x (told_in c.loop-entry.before) c.loop-entry-test.true
    c.entry-item.is c.loop-entry.invariant)

pub returns : goal.returns
returns c =
    let past = c.loop-entry-test.false in
    c.loop-entry.invariant.told
    ∙ ap (λ (rs : List RecordShown). told_before c.args.name rs) (take_all c.loop-entry.entry-index c.args.records.now (omega (arith, past)))
