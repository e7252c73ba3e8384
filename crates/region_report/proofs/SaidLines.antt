-- What follows words, line by line
use Rattle.std.proofs.Common.{◌≡◌, ℕ, nat_eq, true, false, cond, List, [], ◌∷◌, length, refl, ap}
use Rattle.std.specs.List.{starts_with}
use Rattle.death_spec.specs.declared.Line.{Line}
use Rattle.death_spec.specs.Lines.{part, said}
use Rattle.report_spec.specs.Said.{said_after}

pub says_here : (text words : List ℕ) (line : Line) (lines : List Line)
    → starts_with nat_eq (said text line) words ≡ true
    → said_after text words (line ∷ lines) ≡ part (said text line) (length words) (length (said text line))
unfolding said_after
says_here text words line lines e =
    ap (λ t. cond t (part (said text line) (length words) (length (said text line))) (said_after text words lines)) e

pub says_later : (text words : List ℕ) (line : Line) (lines : List Line)
    → starts_with nat_eq (said text line) words ≡ false
    → said_after text words (line ∷ lines) ≡ said_after text words lines
unfolding said_after
says_later text words line lines e =
    ap (λ t. cond t (part (said text line) (length words) (length (said text line))) (said_after text words lines)) e

pub says_none : (text words : List ℕ) → said_after text words [] ≡ []
unfolding said_after
says_none text words = refl
