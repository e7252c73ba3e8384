-- Each warning has its words
use Rattle.std.proofs.Common.{◌∙◌, ◌++◌, List, ap, sym}
use Rattle.std.proofs.lemmas.Result.{on_ok_weaker}
use Rattle.report_spec.specs.declared.Warning.{Warning}
use Rattle.report_text.specs.Pieces.{Part, parts}
use Rattle.report_text.specs.Facts.{warning_parts}
use Rattle.report_text.proofs.warned.add_warning.Goals as goal

pub returns-in-BadTeller : goal.returns-in-BadTeller
returns-in-BadTeller c =
    let old : List Part = parts c.args.pieces.now.items in
    on_ok_weaker c.add_counted.result
    (λ e. e ∙ ap (λ (w : Warning). old ++ warning_parts w) (sym c.in-BadTeller.is)) c.add_counted.ensures

pub returns-in-BadHeaders : goal.returns-in-BadHeaders
returns-in-BadHeaders c =
    let old : List Part = parts c.args.pieces.now.items in
    on_ok_weaker c.add_counted-in-BadHeaders.result
    (λ e. e ∙ ap (λ (w : Warning). old ++ warning_parts w) (sym c.in-BadHeaders.is))
    c.add_counted-in-BadHeaders.ensures

pub returns-in-NoLog : goal.returns-in-NoLog
returns-in-NoLog c =
    let old : List Part = parts c.args.pieces.now.items in
    on_ok_weaker c.add_plain.result
    (λ e. e ∙ ap (λ (w : Warning). old ++ warning_parts w) (sym c.in-NoLog.is)) c.add_plain.ensures

pub returns-in-ManyBad : goal.returns-in-ManyBad
returns-in-ManyBad c =
    let old : List Part = parts c.args.pieces.now.items in
    on_ok_weaker c.add_counted-in-ManyBad.result
    (λ e. e ∙ ap (λ (w : Warning). old ++ warning_parts w) (sym c.in-ManyBad.is)) c.add_counted-in-ManyBad.ensures
