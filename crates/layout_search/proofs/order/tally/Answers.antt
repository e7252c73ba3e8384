-- The counts over a candidate's zones, with the marks at which no zone begins and the bytes behind
-- the zones, make its tally. For `tally`.
use Rattle.std.proofs.Common.{◌∙◌, ◌+◌, ◌-◌, ℕ, ap, length}
use Rattle.layout_spec.specs.declared.Tally.{Tally}
use Rattle.layout_search.proofs.Sums.{tally_is}
use Rattle.layout_search.proofs.order.tally.Goals as goal

pub returns : goal.returns
returns c =
    let made : ℕ → ℕ → Tally = λ strays behind. record {
      faults = c.args.counts.now.misses + strays;
      zones = length c.args.zones.now;
      fits = c.args.counts.now.fits;
      logs = c.args.counts.now.found;
      odd = c.args.counts.now.odd;
      corrected = c.args.counts.now.corrected;
      behind = behind;
    } in
    ap (λ n. made n c.saturating_sub-2.result) c.saturating_sub.ensures
    ∙ ap (λ n. made (c.args.marks - c.args.counts.now.marked) n) c.saturating_sub-2.ensures
    ∙ tally_is c.args.image.now c.args.c.now c.args.counts.now c.args.zones.now c.args.marks c.requires.zones
    c.requires.counts c.requires.marks
