-- A found zone counts header and blocks, any other the header alone, as its reading does. For
-- `read_summary`.
use Rattle.std.proofs.Common.{sym, ◌∙◌}
use Rattle.zone_boot.proofs.HeaderReading.{summary-found, summary-other}
use Rattle.zone_boot.proofs.summaries.read_summary.Goals as goal

pub returns-in-Found : goal.returns-in-Found
returns-in-Found c =
    let h = c.read_header-header.ensures in
    summary-found c.args.zone.now c.args.image.now _ h.words _ _ _ _ (sym c.state_of.ensures ∙ c.in-Found.is)
    (c.counts_of-counts.ensures.corrected _ h.counts) c.count_blocks-more.ensures.corrected
    (c.counts_of-counts.ensures.bad _ h.counts) c.count_blocks-more.ensures.bad

pub returns-in_default : goal.returns-in_default
returns-in_default c =
    let h = c.read_header-header.ensures in
    summary-other c.args.zone.now c.args.image.now _ h.words _ _ _ (sym c.state_of.ensures) c.in_default.not-Found
    (c.counts_of-counts.ensures.corrected _ h.counts) (c.counts_of-counts.ensures.bad _ h.counts)
