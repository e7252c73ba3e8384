-- The cells of a row, and the strip of its first zone
use Rattle.std.proofs.Common.{List, [], ◌∷◌, ◌++◌, codes}
use Rattle.report_html.specs.declared.words.TheConstants.{STRIP}
use Rattle.report_html.specs.Pieces.{Part, Words, parts}
use Rattle.report_html.specs.Pictures.{strip_parts}
use Rattle.report_html.specs.ZoneRows.{ZoneRow, name_parts, place_cells, read_cells, row_in}
use Rattle.report_html.proofs.PartSums.{joined}
use Rattle.report_html.proofs.zone_rows.add_row.Goals as goal

pub returns : goal.returns
returns c =
    let w : ZoneRow = row_in c.args.row in
    let old = parts c.args.pieces.now.items in
    let p1 = parts c.add_names.new.pieces.items in
    let p2 = parts c.add_places.new.pieces.items in
    let p3 = parts c.add_read_cells.new.pieces.items in
    let p4 = parts c.add.new.pieces.items in
    let p5 = parts c.add_strip.new.pieces.items in
    let a1 : List Part = name_parts w.first.0.0 w.last in
    let a2 : List Part = place_cells w.first.0.0 w.last w.first.0.1 in
    let a3 : List Part = read_cells w.first.0.1 in
    let a4 : List Part = Words STRIP.now ∷ [] in
    let a5 : List Part = strip_parts w.first.0.0 w.first.1 in
    let t2 = joined old a1 a2 p1 p2 c.in_ok-add_names.ensures c.in_ok-add_places.ensures in
    let t3 = joined old (a1 ++ a2) a3 p2 p3 t2 c.in_ok-add_read_cells.ensures in
    let t4 = joined old (a1 ++ a2 ++ a3) a4 p3 p4 t3 c.in_ok-add.ensures in
    let t5 = joined old (a1 ++ a2 ++ a3 ++ a4) a5 p4 p5 t4 c.in_ok-add_strip.ensures in
    joined old (a1 ++ a2 ++ a3 ++ a4 ++ a5) (Words (codes "</td></tr>\n") ∷ []) p5 (parts c.add-2.new.pieces.items) t5
    c.in_ok-add-2.ensures
