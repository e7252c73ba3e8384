-- One log more is forgotten or kept, and in the end those left are the ones that fit. For
-- `forget_unfit`.
use Rattle.std.proofs.Common.{◌≡◌, ◌<◌, length, arith, ◌∙◌}
use Rattle.zone_spec.specs.Records.{Saved}
use Rattle.ramoops_layout.specs.Laid.{zones_of}
use Rattle.prz_read.specs.Saving.{saved}
use Rattle.pstore_records.specs.Moves.{stays}
use Rattle.pstore_records.proofs.Steps.{item-at}
use Rattle.pstore_records.proofs.UnfitLogs.{forgets_stay, forgets_next, forgets_all, read-mapped}
use Rattle.pstore_records.proofs.fitting.forget_unfit.Goals as goal
use Rattle.pstore_records.proofs.fitting.forget_unfit.Goals.{then-not-index, else-not-index}

pub loop-i-preserved : goal.loop-i-preserved
loop-i-preserved c =
    let layout = zones_of c.args.layout.now in
    let old = saved c.args.logs.now in
    let below : c.loop-i.i < length old = omega (arith, c.len-i-end.ensures.saved, c.loop-i-test.true) in
    let at = item-at old c.loop-i.i below in
    let same : stays layout old at.item at.item.1 ≡ c.index.result.now =
    read-mapped (λ (s : Saved). stays layout old s s.1) old c.in_ok-all.all.items c.loop-i.i at.item
    c.index.result.now c.in_ok-all.ensures c.index.ensures below at.here in
    elim c.if-not-index.branch [
      | then-not-index w ↦ rw w.logs-is (forgets_next layout c.args.logs.now c.loop-i.logs c.loop-i.i at.item
          c.loop-i.invariant at.here below w.forget.new.self (same ∙ w.if-not-index.true) w.forget.ensures)
      | else-not-index w ↦ rw w.logs-is (forgets_stay layout c.args.logs.now c.loop-i.logs c.loop-i.i at.item
          c.loop-i.invariant at.here below (same ∙ w.if-not-index.false))
    ]

pub returns : goal.returns
returns c = record {
  forgotten = forgets_all (zones_of c.args.layout.now) c.args.logs.now c.loop-i.logs c.loop-i.i c.loop-i.invariant
      (omega (arith, c.len-i-end.ensures.saved, c.loop-i-test.false));
  zones = c.loop-i.invariant.zones;
  unchanged = tt;
}
