-- A link, what mended the record, how it read, and the head of the lines
use Rattle.std.proofs.Common.{◌≡◌, ◌++◌, ◌∷◌, [], List, codes}
use Rattle.std.specs.Option.{option_copied}
use Rattle.prz_read.specs.Saving.{saved}
use Rattle.report_html.specs.declared.words.TheConstants.{READ, TOLD}
use Rattle.report_html.specs.Pieces.{Part, Words, Named, Link, parts}
use Rattle.report_html.specs.Reads.{read_parts}
use Rattle.report_html.specs.Died.{mended_parts}
use Rattle.report_html.proofs.PartSums.{joined}
use Rattle.report_html.proofs.died.add_teller.Goals as goal

pub returns : goal.returns
returns c =
    let name = c.args.name in
    let old = parts c.args.pieces.now.items in
    let p1 = parts c.add.new.pieces.items in
    let p2 = parts c.add_mended.new.pieces.items in
    let p3 = parts c.add-2.new.pieces.items in
    let p4 = parts c.add_read.new.pieces.items in
    let p5 = parts c.add-3.new.pieces.items in
    let a1 : List Part = Words (codes "<tr><th scope=\"row\">Told by</th><td>") ∷ Link name ∷ [] in
    let a2 : List Part = mended_parts (option_copied c.args.mended) in
    let a3 : List Part = Words c.args.words.now ∷ Words READ.now ∷ [] in
    let a4 : List Part = read_parts (saved c.args.logs.now) name in
    let a5 : List Part = Words TOLD.now ∷ Named name ∷ Words (codes "</h2>\n") ∷ [] in
    let e1 : p1 ≡ old ++ a1 = c.in_ok-add.ensures in
    let e2 : p2 ≡ p1 ++ a2 = c.in_ok-add_mended.ensures in
    let e3 : p3 ≡ p2 ++ a3 = c.in_ok-add-2.ensures in
    let e4 : p4 ≡ p3 ++ a4 = c.in_ok-add_read.ensures in
    let e5 : p5 ≡ p4 ++ a5 = c.in_ok-add-3.ensures in
    let t2 = joined old a1 a2 p1 p2 e1 e2 in
    let t3 = joined old (a1 ++ a2) a3 p2 p3 t2 e3 in
    let t4 = joined old (a1 ++ a2 ++ a3) a4 p3 p4 t3 e4 in
    joined old (a1 ++ a2 ++ a3 ++ a4) a5 p4 p5 t4 e5
