-- Each zone is drawn with its reading and its parts
use Rattle.std.proofs.Common.{◌≡◌, ◌<◌, ◌∙◌, ◌++◌, ℕ, List, length, get_or, ap, sym, arith, Some}
use Rattle.std.specs.Prelude.{Option, flat_map, slice_get}
use Rattle.std.specs.List.{zip}
use Rattle.std.specs.Option.{option_copied, option_map}
use Rattle.std.proofs.lemmas.List.Concat.{flat_map-append}
use Rattle.std.proofs.lemmas.Option.{slice_get-get_or}
use Rattle.zone_spec.specs.declared.Zone.{Zone}
use Rattle.zone_spec.specs.Reading.{ZoneReading}
use Rattle.zone_spec.specs.Records.{Saved}
use Rattle.zone_spec.specs.PartStates.{PartStates}
use Rattle.prz_read.specs.Saving.{SavedLogs, saved}
use Rattle.pstore_records.proofs.Steps.{collected-more, collected-all}
use Rattle.report_html.specs.Pieces.{Part, parts}
use Rattle.report_html.specs.Pictures.{map_parts, width_of}
use Rattle.report_html.proofs.PictureZones.{no_zone, read-at, drawn, all-count}
use Rattle.report_html.proofs.picture.add_map.Goals as goal

pub loop-i-preserved : goal.loop-i-preserved
loop-i-preserved c =
    let zones = c.args.zones.now in
    let logs = c.args.report.now.logs in
    let states = c.args.report.now.parts in
    let all = zip (zip zones logs.readings) states in
    let i = c.loop-i.i in
    let z : Zone = get_or zones i no_zone in
    let p : PartStates = c.index-states-i.result in
    let r : Option ZoneReading = option_copied c.reading-reading.result in
    let count : c.min-count.result ≡ length all =
    all-count zones logs c.logs-logs.result.now states c.parts-states.result.now c.min.result c.len.result
    c.min-count.result c.logs-logs.ensures c.parts-states.ensures c.min.ensures c.len.ensures.readings
    c.min-count.ensures in
    let below = c.loop-i-test.true in
    let least = c.min.ensures in
    let fewest = c.min-count.ensures in
    let lt : i < length all = omega (arith, below, count) in
    let here : slice_get zones i ≡ Some z = slice_get-get_or zones i no_zone (omega (arith, below, least, fewest)) in
    let read : slice_get logs.readings i ≡ Some r =
    read-at logs.zones logs.readings i r
    (ap (λ (l : SavedLogs). option_map (λ (s : Saved). s.1) (slice_get (saved l) i)) (sym c.logs-logs.ensures)
    ∙ c.reading-reading.ensures) in
    let beside : slice_get states i ≡ Some p =
    ap (λ (ps : List PartStates). slice_get ps i) (sym c.parts-states.ensures)
    ∙ slice_get-get_or c.parts-states.result.now i p (omega (arith, below, least, fewest))
    ∙ ap (λ (q : PartStates). Some q) (sym c.index-states-i.is) in
    let f : Saved × PartStates → List Part = map_parts (width_of zones) in
    let added : parts c.add_map_zone.new.pieces.items ≡ parts c.loop-i.pieces.items ++ f ((z, r), p) =
    c.in_ok-add_map_zone.ensures
    ∙ ap (λ (n : ℕ). parts c.loop-i.pieces.items ++ map_parts n ((z, r), p)) c.width-whole.ensures in
    collected-more (λ (ds : List (Saved × PartStates)). flat_map f ds) (flat_map-append f) all i
    (parts c.args.pieces.now.items) (parts c.loop-i.pieces.items) (parts c.add_map_zone.new.pieces.items)
    (f ((z, r), p)) lt (λ d at. drawn f zones logs.readings states i z r p d here read beside at)
    c.loop-i.invariant added

pub returns : goal.returns
returns c =
    let zones = c.args.zones.now in
    let logs = c.args.report.now.logs in
    let states = c.args.report.now.parts in
    let all = zip (zip zones logs.readings) states in
    let count : c.min-count.result ≡ length all =
    all-count zones logs c.logs-logs.result.now states c.parts-states.result.now c.min.result c.len.result
    c.min-count.result c.logs-logs.ensures c.parts-states.ensures c.min.ensures c.len.ensures.readings
    c.min-count.ensures in
    let f : Saved × PartStates → List Part = map_parts (width_of zones) in
    collected-all (λ (ds : List (Saved × PartStates)). flat_map f ds) (flat_map-append f) all
    c.loop-i.i (parts c.args.pieces.now.items) (parts c.loop-i.pieces.items)
    (let past = c.loop-i-test.false in omega (arith, past, count)) c.loop-i.invariant
