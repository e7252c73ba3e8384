-- A stable sort by time
use Rattle.std.proofs.Common.{◌∙◌, List, ap, rules}
use Rattle.std.proofs.lemmas.List.Sorted.{answers_always}
use Rattle.report_spec.specs.Packed.{RecordShown}
use Rattle.report_html.specs.Order.{newest_first}
use Rattle.report_html.proofs.NewestFirst.{before_in, times-rank, records-sorted}
use Rattle.report_html.proofs.order.newest_first.Goals as goal

pub returns : goal.returns
returns c =
    let sorted = c.in_ok-sort_by.ensures in
    records-sorted c.in_ok-all.all.items c.sort_by.new.self.items
    (sorted.sorted before_in times-rank (answers_always _ _ _ (λ f a r g k. search rules)))
    (sorted.stable before_in times-rank (answers_always _ _ _ (λ f a r g k. search rules)))
    ∙ ap newest_first c.in_ok-all.ensures
