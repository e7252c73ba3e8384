-- A zone's place, name, frame, strip and label, one after another
use Rattle.std.proofs.Common.{List, [], ◌∷◌, ◌++◌, codes}
use Rattle.std.specs.Option.{option_copied}
use Rattle.report_html.specs.Pieces.{Part, Words, parts}
use Rattle.report_html.specs.Pictures.{place_parts, zone_name, frame_parts, strip_parts, label_parts}
use Rattle.report_html.proofs.PartSums.{joined}
use Rattle.report_html.proofs.picture.add_map_zone.Goals as goal

pub returns : goal.returns
returns c =
    let z = c.args.zone.now in
    let old = parts c.args.pieces.now.items in
    let p1 = parts c.add_place.new.pieces.items in
    let p2 = parts c.add_zone_name.new.pieces.items in
    let p3 = parts c.add_frame.new.pieces.items in
    let p4 = parts c.add_strip.new.pieces.items in
    let p5 = parts c.add_label.new.pieces.items in
    let a1 : List Part = place_parts c.args.whole z in
    let a2 : List Part = zone_name z in
    let a3 : List Part = frame_parts (option_copied c.args.reading) in
    let a4 : List Part = strip_parts z c.args.states.now in
    let a5 : List Part = label_parts z c.args.whole in
    let t2 = joined old a1 a2 p1 p2 c.in_ok-add_place.ensures c.in_ok-add_zone_name.ensures in
    let t3 = joined old (a1 ++ a2) a3 p2 p3 t2 c.in_ok-add_frame.ensures in
    let t4 = joined old (a1 ++ a2 ++ a3) a4 p3 p4 t3 c.in_ok-add_strip.ensures in
    let t5 = joined old (a1 ++ a2 ++ a3 ++ a4) a5 p4 p5 t4 c.in_ok-add_label.ensures in
    joined old (a1 ++ a2 ++ a3 ++ a4 ++ a5) (Words (codes "</svg>\n") ∷ []) p5 (parts c.add.new.pieces.items) t5
    c.in_ok-add.ensures
