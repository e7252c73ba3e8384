-- Each zone joins the row that is held, or begins the next one
use Rattle.std.proofs.Common.{◌≡◌, ◌<◌, ◌∙◌, ◌++◌, ◌+◌, ℕ, List, drop, length, get_or, ap, sym, arith, Some, None}
use Rattle.std.specs.Prelude.{Option, slice_get}
use Rattle.std.specs.List.{zip}
use Rattle.std.specs.Option.{option_copied, option_map}
use Rattle.std.proofs.lemmas.Option.{slice_get-get_or}
use Rattle.zone_spec.specs.declared.Zone.{Zone}
use Rattle.zone_spec.specs.Reading.{ZoneReading}
use Rattle.zone_spec.specs.Records.{Saved}
use Rattle.zone_spec.specs.PartStates.{PartStates}
use Rattle.prz_read.specs.Saving.{SavedLogs, saved}
use Rattle.prz_read.proofs.Saves.{zip-at}
use Rattle.report_html.specs.Pieces.{Part, parts}
use Rattle.report_html.specs.Pictures.{drawn_of}
use Rattle.report_html.specs.ZoneRows.{ZoneRow, next_row, row_in, rows_after}
use Rattle.report_html.proofs.PictureZones.{no_zone, read-at, all-count}
use Rattle.report_html.proofs.RowsOfZones.{row_on, row_all}
use Rattle.report_html.proofs.zone_rows.add_rows.Goals as goal

pub loop-i-preserved : goal.loop-i-preserved
loop-i-preserved c =
    let zones = c.args.zones.now in
    let logs = c.args.report.now.logs in
    let states = c.args.report.now.parts in
    let all : List (Saved × PartStates) = drawn_of zones c.args.report.now in
    let i = c.loop-i.i in
    let z : Zone = get_or zones i no_zone in
    let p : PartStates = c.index-states-i.result in
    let r : Option ZoneReading = option_copied c.reading.result in
    let count : c.min-count.result ≡ length all =
    all-count zones logs c.logs-logs.result.now states c.parts-states.result.now c.min.result c.len.result
    c.min-count.result c.logs-logs.ensures c.parts-states.ensures c.min.ensures c.len.ensures.readings
    c.min-count.ensures in
    let below = c.loop-i-test.true in
    let least = c.min.ensures in
    let fewest = c.min-count.ensures in
    let lt : i < length all = omega (arith, below, count) in
    let here : slice_get zones i ≡ Some z = slice_get-get_or zones i no_zone (omega (arith, below, least, fewest)) in
    let read : slice_get logs.readings i ≡ Some r =
    read-at logs.zones logs.readings i r
    (ap (λ (l : SavedLogs). option_map (λ (s : Saved). s.1) (slice_get (saved l) i)) (sym c.logs-logs.ensures)
    ∙ c.reading.ensures) in
    let beside : slice_get states i ≡ Some p =
    ap (λ (ps : List PartStates). slice_get ps i) (sym c.parts-states.ensures)
    ∙ slice_get-get_or c.parts-states.result.now i p (omega (arith, below, least, fewest))
    ∙ ap (λ (q : PartStates). Some q) (sym c.index-states-i.is) in
    let d : Saved × PartStates = ((z, r), p) in
    let at : slice_get all i ≡ Some d =
    zip-at (zip zones logs.readings) states i (z, r) p (zip-at zones logs.readings i z r here read) beside in
    let held : Option ZoneRow = option_map row_in c.loop-i.held in
    ap (λ (w : ZoneRow). parts c.add_done.new.pieces.items ++ rows_after (Some w) (drop (i + 1) all)) c.next_row.ensures
    ∙ row_on all i d held (parts c.args.pieces.now.items) (parts c.loop-i.pieces.items)
    (parts c.add_done.new.pieces.items) lt at c.loop-i.invariant c.in_ok-add_done.ensures

pub returns : goal.returns
returns c =
    let zones = c.args.zones.now in
    let logs = c.args.report.now.logs in
    let states = c.args.report.now.parts in
    let all : List (Saved × PartStates) = drawn_of zones c.args.report.now in
    let count : c.min-count.result ≡ length all =
    all-count zones logs c.logs-logs.result.now states c.parts-states.result.now c.min.result c.len.result
    c.min-count.result c.logs-logs.ensures c.parts-states.ensures c.min.ensures c.len.ensures.readings
    c.min-count.ensures in
    row_all all c.loop-i.i (option_map row_in c.loop-i.held) (parts c.args.pieces.now.items)
    (parts c.loop-i.pieces.items) (parts c.add_held.new.pieces.items)
    (let past = c.loop-i-test.false in omega (arith, past, count)) c.loop-i.invariant c.in_ok-add_held.ensures
