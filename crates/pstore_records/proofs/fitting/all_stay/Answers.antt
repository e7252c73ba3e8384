-- One answer more is that of the next zone, and in the end of all. For `all_stay`.
use Rattle.std.proofs.Common.{◌<◌, length, map, ap, ◌∙◌, arith}
use Rattle.std.proofs.lemmas.List.{take_all}
use Rattle.zone_spec.specs.Records.{Saved}
use Rattle.ramoops_layout.specs.Laid.{zones_of}
use Rattle.prz_read.specs.Saving.{saved}
use Rattle.pstore_records.specs.Moves.{stays}
use Rattle.pstore_records.proofs.UnfitLogs.{mapped-more}
use Rattle.pstore_records.proofs.fitting.all_stay.Goals as goal

pub loop-i-preserved : goal.loop-i-preserved
loop-i-preserved c =
    let zones = saved c.args.logs.now in
    let within : c.loop-i.i < length zones = omega (arith, c.len-i-end.ensures.saved, c.loop-i-test.true) in
    mapped-more (λ (s : Saved). stays (zones_of c.args.layout.now) zones s s.1) zones c.loop-i.i c.loop-i.all.items
    c.push.new.self.items c.stays.result within c.stays.ensures c.loop-i.invariant
    c.in_ok-push.ensures.items

pub returns : goal.returns
returns c =
    let zones = saved c.args.logs.now in
    c.loop-i.invariant ∙ ap (map (λ (s : Saved). stays (zones_of c.args.layout.now) zones s s.1))
    (take_all c.loop-i.i zones (omega (arith, c.len-i-end.ensures.saved, c.loop-i-test.false)))
