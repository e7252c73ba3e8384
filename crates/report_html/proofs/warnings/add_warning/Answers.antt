-- Each warning has its words
use Rattle.std.proofs.Common.{◌∙◌, ◌++◌, List, ap, sym}
use Rattle.std.proofs.lemmas.Result.{on_ok_weaker}
use Rattle.report_spec.specs.declared.Warning.{Warning}
use Rattle.report_html.specs.Pieces.{Part, parts}
use Rattle.report_html.specs.Warnings.{warning_parts}
use Rattle.report_html.proofs.warnings.add_warning.Goals as goal

pub returns-in-BadTeller : goal.returns-in-BadTeller
returns-in-BadTeller c =
    let old : List Part = parts c.args.pieces.now.items in
    on_ok_weaker c.add_warned.result
    (λ e. e ∙ ap (λ (w : Warning). old ++ warning_parts w) (sym c.in-BadTeller.is)) c.add_warned.ensures

pub returns-in-BadHeaders : goal.returns-in-BadHeaders
returns-in-BadHeaders c =
    let old : List Part = parts c.args.pieces.now.items in
    on_ok_weaker c.add_bad_headers.result
    (λ e. e ∙ ap (λ (w : Warning). old ++ warning_parts w) (sym c.in-BadHeaders.is)) c.add_bad_headers.ensures

pub returns-in-NoLog : goal.returns-in-NoLog
returns-in-NoLog c =
    let old : List Part = parts c.args.pieces.now.items in
    on_ok_weaker c.add_warned-in-NoLog.result
    (λ e. e ∙ ap (λ (w : Warning). old ++ warning_parts w) (sym c.in-NoLog.is)) c.add_warned-in-NoLog.ensures

pub returns-in-ManyBad : goal.returns-in-ManyBad
returns-in-ManyBad c =
    let old : List Part = parts c.args.pieces.now.items in
    on_ok_weaker c.add_warned-in-ManyBad.result
    (λ e. e ∙ ap (λ (w : Warning). old ++ warning_parts w) (sym c.in-ManyBad.is)) c.add_warned-in-ManyBad.ensures
