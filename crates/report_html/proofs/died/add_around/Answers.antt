-- The lines before, around and after those that tell; and that the bytes of a slice are bytes
use Rattle.std.proofs.Common.{◌≡◌, ◌∙◌, ℕ, List, [], ◌∷◌, ◌++◌, codes, ap}
use Rattle.report_spec.specs.Excerpts.{place_above}
use Rattle.report_html.specs.Pieces.{Part, Words, parts}
use Rattle.report_html.specs.Died.{rest_end, excerpt_parts, before_folded, after_folded, shown_opening}
use Rattle.report_html.proofs.PartSums.{joined}
use Rattle.report_html.proofs.died.add_around.Goals as goal

pub returns-clause-bytes : goal.returns-clause-bytes
returns-clause-bytes c = λ i. (c.type_inv.text i).fits

pub returns-clause-parts : goal.returns-clause-parts
returns-clause-parts c =
    let text = c.args.text.now in
    let doubts = c.args.doubts.now in
    let d = c.args.death in
    let old = parts c.args.pieces.now.items in
    let p1 = parts c.add_front.new.pieces.items in
    let p2 = parts c.add_shown_opening.new.pieces.items in
    let p3 = parts c.add_excerpt.new.pieces.items in
    let p4 = parts c.add.new.pieces.items in
    let p5 = parts c.add_back.new.pieces.items in
    let from = place_above text d.telling.start 8 in
    let to = rest_end text d.telling.next d.second in
    let a1 : List Part = before_folded doubts text from in
    let a2 : List Part = shown_opening c.args.name in
    let a3 : List Part = excerpt_parts doubts text d in
    let a4 : List Part = Words (codes "</pre>\n") ∷ [] in
    let a5 : List Part = after_folded doubts text to in
    let e1 : p1 ≡ old ++ a1 = c.in_ok-add_front.ensures
    ∙ ap (λ (n : ℕ). old ++ before_folded doubts text n) c.place_above-from.ensures in
    let e5 : p5 ≡ p4 ++ a5 = c.in_ok-add_back.ensures
    ∙ ap (λ (n : ℕ). p4 ++ after_folded doubts text n) c.rest_end-to.ensures in
    let t2 = joined old a1 a2 p1 p2 e1 c.in_ok-add_shown_opening.ensures in
    let t3 = joined old (a1 ++ a2) a3 p2 p3 t2 c.in_ok-add_excerpt.ensures in
    let t4 = joined old (a1 ++ a2 ++ a3) a4 p3 p4 t3 c.in_ok-add.ensures in
    joined old (a1 ++ a2 ++ a3 ++ a4) a5 p4 p5 t4 e5
