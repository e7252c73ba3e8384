-- One line of a text more, and its end. For the loop of `mended`.
use Rattle.std.proofs.Common.{◌≡◌, ℕ, Bool, List, [], ◌∷◌, ◌++◌, ap, sym, ◌∙◌, append_assoc, append-nil}
use Rattle.std.proofs.lemmas.List.Concat.{flat_map-cons}
use Rattle.death_spec.specs.declared.Line.{Line}
use Rattle.report_spec.specs.Mending.{Seen, partner, mended_line, line_doubts, mended_lines, lines_doubts}

pub text-more : (a b : Seen) (before after whole : List ℕ) (line : Line) (rest lines : List Line) → rest ≡ line ∷ lines
    → after ≡ before ++ mended_line a b line (partner a b line) → before ++ mended_lines a b rest ≡ whole
    → after ++ mended_lines a b lines ≡ whole
unfolding mended_lines
text-more a b before after whole line rest lines e f g =
    let one : Line → List ℕ = λ l. mended_line a b l (partner a b l) in
    ap (λ (t : List ℕ). t ++ mended_lines a b lines) f
    ∙ append_assoc before (one line) (mended_lines a b lines)
    ∙ ap (λ (t : List ℕ). before ++ t) (sym (flat_map-cons one line lines))
    ∙ ap (λ (ls : List Line). before ++ mended_lines a b ls) (sym e) ∙ g

pub text-end : (a b : Seen) (before whole : List ℕ) (rest : List Line) → rest ≡ []
    → before ++ mended_lines a b rest ≡ whole → before ≡ whole
unfolding mended_lines
text-end a b before whole rest e g =
    sym (append-nil before) ∙ ap (λ (ls : List Line). before ++ mended_lines a b ls) (sym e) ∙ g

pub doubts-more : (a b : Seen) (before after whole : List Bool) (line : Line) (rest lines : List Line)
    → rest ≡ line ∷ lines → after ≡ before ++ line_doubts a b line (partner a b line)
    → before ++ lines_doubts a b rest ≡ whole → after ++ lines_doubts a b lines ≡ whole
unfolding lines_doubts
doubts-more a b before after whole line rest lines e f g =
    let one : Line → List Bool = λ l. line_doubts a b l (partner a b l) in
    ap (λ (t : List Bool). t ++ lines_doubts a b lines) f
    ∙ append_assoc before (one line) (lines_doubts a b lines)
    ∙ ap (λ (t : List Bool). before ++ t) (sym (flat_map-cons one line lines))
    ∙ ap (λ (ls : List Line). before ++ lines_doubts a b ls) (sym e) ∙ g

pub doubts-end : (a b : Seen) (before whole : List Bool) (rest : List Line) → rest ≡ []
    → before ++ lines_doubts a b rest ≡ whole → before ≡ whole
unfolding lines_doubts
doubts-end a b before whole rest e g =
    sym (append-nil before) ∙ ap (λ (ls : List Line). before ++ lines_doubts a b ls) (sym e) ∙ g
