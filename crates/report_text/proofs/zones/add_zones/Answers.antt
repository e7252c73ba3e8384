-- Each zone adds its row
use Rattle.std.proofs.Common.{◌≡◌, ◌<◌, ◌∙◌, List, length, get_or, ap, sym, arith, Some, None}
use Rattle.std.specs.Prelude.{flat_map, slice_get}
use Rattle.std.specs.Option.{option_copied, option_map}
use Rattle.std.proofs.lemmas.List.Concat.{flat_map-append}
use Rattle.std.proofs.lemmas.Option.{slice_get-get_or}
use Rattle.prz_region.proofs.CutLoop.{no_zone}
use Rattle.zone_spec.specs.declared.Zone.{Zone}
use Rattle.zone_spec.specs.Records.{Saved}
use Rattle.prz_read.specs.Saving.{saved}
use Rattle.prz_read.proofs.Saves.{zip-at}
use Rattle.pstore_records.proofs.Steps.{collected-more}
use Rattle.report_text.specs.Pieces.{parts}
use Rattle.report_text.specs.Tables.{zone_row}
use Rattle.report_text.proofs.ZoneRows.{row-of}
use Rattle.report_text.proofs.zones.add_zones.Goals as goal

pub loop-i-preserved : goal.loop-i-preserved
loop-i-preserved c =
    let logs = c.args.logs.now in
    let zones = saved logs in
    let z : Zone = get_or c.args.zones.now c.loop-i.i no_zone in
    let r = option_copied c.reading.result in
    let within : c.loop-i.i < length zones = omega (arith, c.len-i-end.ensures.saved, c.loop-i-test.true) in
    let some : c.loop-i.i < length logs.readings =
    omega (arith, c.len-i-end.ensures.readings, c.loop-i-test.true) in
    let here : slice_get logs.zones c.loop-i.i ≡ Some z =
    ap (λ (zs : List Zone). slice_get zs c.loop-i.i) (sym c.requires.zones)
    ∙ slice_get-get_or c.args.zones.now c.loop-i.i no_zone (let n = c.requires.readings in omega (arith, some, n)) in
    let beside = zip-at logs.zones logs.readings c.loop-i.i z (get_or logs.readings c.loop-i.i None) here
    (slice_get-get_or logs.readings c.loop-i.i None some) in
    collected-more (λ (ss : List Saved). flat_map zone_row ss) (flat_map-append zone_row) zones c.loop-i.i
    (parts c.add.new.pieces.items) (parts c.loop-i.pieces.items) (parts c.add_zone.new.pieces.items)
    (zone_row (z, r)) within
    (λ s at. row-of c.args.zones.now zones c.loop-i.i z r s (ap (option_map (λ (t : Saved). t.0)) beside)
    c.reading.ensures at) c.loop-i.invariant c.in_ok-add_zone.ensures
