-- What people read of the records in order are bytes, and so of the records
use Rattle.std.proofs.Common.{◌≡◌, ◌∙◌, List, ap, subst}
use Rattle.std.proofs.lemmas.Result.{on_ok_weaker}
use Rattle.report_spec.specs.Packed.{RecordShown}
use Rattle.report_html.specs.Order.{newest_first, shown_in}
use Rattle.report_html.specs.Escaping.{HoldBytes}
use Rattle.report_html.proofs.NewestFirst.{held-as-listed}
use Rattle.report_html.proofs.page.add_list.Goals as goal

pub returns-clause-bytes : goal.returns-clause-bytes
returns-clause-bytes c =
    let records : List RecordShown = c.args.report.now.records in
    let same : shown_in c.as_slice.result.now ≡ newest_first records =
    ap shown_in c.as_slice.ensures.value ∙ c.in_ok-ordered.ensures ∙ ap newest_first c.records-records.ensures in
    on_ok_weaker c.add_each.result (λ h. held-as-listed records (subst HoldBytes same h)) c.add_each.ensures.bytes
