-- The row of what was before, and that what people read of it are bytes
use Rattle.std.proofs.Common.{◌≡◌, ◌++◌, ◌∙◌, List, [], ◌∷◌, ℕ, codes, ap, subst}
use Rattle.zone_spec.specs.Parts.{AreBytes}
use Rattle.report_spec.specs.Packed.{RecordShown, readable}
use Rattle.region_report.specs.Tellers.{as_told}
use Rattle.report_html.specs.Pieces.{Part, Words, Link, parts}
use Rattle.report_html.specs.Before.{time_after, line_below, context_below}
use Rattle.report_html.proofs.PartSums.{joined}
use Rattle.report_html.proofs.before.add_told.Goals as goal

pub returns-clause-bytes : goal.returns-clause-bytes
returns-clause-bytes c = subst AreBytes c.readable-text.ensures c.in_ok-add_line_below.ensures.bytes

pub returns-clause-parts : goal.returns-clause-parts
returns-clause-parts c =
    let t = as_told c.args.told in
    let old = parts c.args.pieces.now.items in
    let front : RecordShown → List Part =
    λ q. Words (codes "<tr><th scope=\"row\">Before it</th><td>") ∷ Link q.name ∷ [] in
    let p1 = parts c.add.new.pieces.items in
    let a1 : List Part = front t.teller in
    let p2 = parts c.add_time_after.new.pieces.items in
    let a2 : List Part = time_after t.teller.time in
    let p3 = parts c.add_line_below.new.pieces.items in
    let a3 : List Part = line_below (readable t.teller) t.death.telling in
    let e1 : p1 ≡ old ++ a1 = c.in_ok-add.ensures ∙ ap (λ (q : RecordShown). old ++ front q) c.teller.view_is in
    let e2 : p2 ≡ p1 ++ a2 =
    c.in_ok-add_time_after.ensures ∙ ap (λ (q : RecordShown). p1 ++ time_after q.time) c.teller.view_is in
    let t2 = joined old a1 a2 p1 p2 e1 e2 in
    let e3 : p3 ≡ p2 ++ a3 = c.in_ok-add_line_below.ensures.parts
    ∙ ap (λ (bs : List ℕ). p2 ++ line_below bs t.death.telling) c.readable-text.ensures in
    let t3 = joined old (a1 ++ a2) a3 p2 p3 t2 e3 in
    let p4 = parts c.add_context.new.pieces.items in
    let a4 : List Part = context_below (readable t.teller) t.death in
    let e4 : p4 ≡ p3 ++ a4 = c.in_ok-add_context.ensures
    ∙ ap (λ (bs : List ℕ). p3 ++ context_below bs t.death) c.readable-text.ensures in
    let t4 = joined old (a1 ++ a2 ++ a3) a4 p3 p4 t3 e4 in
    joined old (a1 ++ a2 ++ a3 ++ a4) (Words (codes "</td></tr>\n") ∷ []) p4 (parts c.add-2.new.pieces.items) t4
    c.in_ok-add-2.ensures
