-- The cells of a row
use Rattle.std.proofs.Common.{◌≡◌, ◌∙◌, ◌++◌, ◌∷◌, [], ℕ, List, ap₂, codes}
use Rattle.report_html.specs.Pieces.{Part, Words, Count, parts}
use Rattle.report_html.specs.declared.spots.Spot.{Spot}
use Rattle.report_html.specs.Pictures.{zone_name}
use Rattle.report_html.specs.declared.words.TheConstants.{CELL}
use Rattle.report_html.specs.Spots.{stretch_parts, place_of, size_of, verdict_parts}
use Rattle.report_html.proofs.PartSums.{joined}
use Rattle.report_html.proofs.spots.add_spot.Goals as goal

pub returns : goal.returns
returns c =
    let old = parts c.args.pieces.now.items in
    let s : Spot = c.args.spot.now in
    let cells : ℕ → ℕ → List Part = λ m n. Words CELL.now ∷ Count m ∷ Words CELL.now ∷ Count n ∷ Words (codes "</td><td>") ∷ [] in
    let p1 = parts c.add.new.pieces.items in
    let a1 : List Part = Words (codes "<tr><th scope=\"row\">") ∷ [] in
    let p2 = parts c.add_zone_name.new.pieces.items in
    let a2 : List Part = zone_name s.zone in
    let p3 = parts c.add-2.new.pieces.items in
    let a3 : List Part = Words (codes "</th><td class=\"n\">") ∷ [] in
    let p4 = parts c.add_stretch.new.pieces.items in
    let a4 : List Part = stretch_parts s.stretch in
    let p5 = parts c.add-3.new.pieces.items in
    let a5 : List Part = cells (place_of s.zone s.stretch) (size_of s.zone s.stretch) in
    let p6 = parts c.add_verdict.new.pieces.items in
    let a6 : List Part = verdict_parts s.stretch s.state in
    let p7 = parts c.add-4.new.pieces.items in
    let a7 : List Part = Words (codes "</td></tr>\n") ∷ [] in
    let e1 : p1 ≡ old ++ a1 = c.in_ok-add.ensures in
    let e2 : p2 ≡ p1 ++ a2 = c.in_ok-add_zone_name.ensures in
    let t2 = joined old a1 a2 p1 p2 e1 e2 in
    let e3 : p3 ≡ p2 ++ a3 = c.in_ok-add-2.ensures in
    let t3 = joined old (a1 ++ a2) a3 p2 p3 t2 e3 in
    let e4 : p4 ≡ p3 ++ a4 = c.in_ok-add_stretch.ensures in
    let t4 = joined old (a1 ++ a2 ++ a3) a4 p3 p4 t3 e4 in
    let e5 : p5 ≡ p4 ++ a5 = c.in_ok-add-3.ensures
    ∙ ap₂ (λ (m n : ℕ). p4 ++ cells m n) c.place_of.ensures c.size_of.ensures in
    let t5 = joined old (a1 ++ a2 ++ a3 ++ a4) a5 p4 p5 t4 e5 in
    let e6 : p6 ≡ p5 ++ a6 = c.in_ok-add_verdict.ensures in
    let t6 = joined old (a1 ++ a2 ++ a3 ++ a4 ++ a5) a6 p5 p6 t5 e6 in
    let e7 : p7 ≡ p6 ++ a7 = c.in_ok-add-4.ensures in
    joined old (a1 ++ a2 ++ a3 ++ a4 ++ a5 ++ a6) a7 p6 p7 t6 e7
