-- How the zone reads
use Rattle.std.proofs.Common.{◌∙◌, ◌++◌, ◌∷◌, [], ℕ, List, ap, codes}
use Rattle.report_html.specs.declared.words.TheConstants.{FRAME}
use Rattle.report_html.specs.Pieces.{Part, Words, parts}
use Rattle.report_html.proofs.picture.add_frame.Goals as goal

pub returns : goal.returns
returns c =
    let old = parts c.args.pieces.now.items in
    let shown : List ℕ → List Part = λ words. Words (codes ": ") ∷ Words words ∷ Words FRAME.now ∷ [] in
    c.in_ok-add.ensures ∙ ap (λ (words : List ℕ). old ++ shown words) c.read_text-read.ensures
