-- The entries of a call trace, one line after the other
use Rattle.std.proofs.Common.{◌≡◌, ℕ, Bool, true, false, ◌||◌, ◌==◌, cond, List, [], ◌∷◌, length, Some, None, refl, ap, ◌∙◌}
use Rattle.std.proofs.lemmas.List.Sums.{take_while-cons}
use Rattle.std.specs.List.{filter, take_while}
use Rattle.death_spec.specs.declared.Line.{Line}
use Rattle.death_spec.specs.declared.Mark.TheVariants.{Unsure, Stack, Bare}
use Rattle.death_spec.specs.Marks.{begins}
use Rattle.death_spec.specs.Lines.{lines_from, said}
use Rattle.death_spec.specs.Traces.{unplaced, is_entry, is_of_trace, entries, is_helper, to_blame}

abbrev taken : List ℕ → List Line → List Line
taken text lines =
    filter (λ line. is_entry (said text line)) (take_while (λ line. is_of_trace (said text line)) lines)

step : (text : List ℕ) (line : Line) (lines : List Line)
    → taken text (line ∷ lines)
    ≡ cond (is_of_trace (said text line))
    (cond (is_entry (said text line)) (line ∷ taken text lines) (taken text lines)) []
step text line lines =
    ap (filter (λ l. is_entry (said text l))) (take_while-cons (λ l. is_of_trace (said text l)) line lines)
    ∙ by (is_of_trace (said text line))
  where
    by : (t : Bool)
        → filter (λ l. is_entry (said text l)) (cond t (line ∷ take_while (λ l. is_of_trace (said text l)) lines) [])
        ≡ cond t (cond (is_entry (said text line)) (line ∷ taken text lines) (taken text lines)) []
    by true = refl
    by false = refl

-- an entry is of the trace
entry_is_of_trace : (words : List ℕ) → is_entry words ≡ true → is_of_trace words ≡ true
entry_is_of_trace words e =
    ap (λ t. length words == 0 || begins Stack words || begins Unsure (unplaced words) || begins Bare (unplaced words)
    || t) e
    ∙ all (length words == 0) (begins Stack words) (begins Unsure (unplaced words)) (begins Bare (unplaced words))
  where
    all : (a b c d : Bool) → (a || b || c || d || true) ≡ true
    all true b c d = refl
    all false true c d = refl
    all false false true d = refl
    all false false false true = refl
    all false false false false = refl

pub entry_yes : (text : List ℕ) (at : ℕ) (line : Line) → lines_from text at ≡ line ∷ lines_from text line.next
    → is_entry (said text line) ≡ true → entries text at ≡ line ∷ entries text line.next
unfolding entries
entry_yes text at line h e =
    let rest : List Line = taken text (lines_from text line.next) in
    ap (taken text) h ∙ step text line (lines_from text line.next)
    ∙ ap (λ t. cond t (cond (is_entry (said text line)) (line ∷ rest) rest) []) (entry_is_of_trace (said text line) e)
    ∙ ap (λ t. cond t (line ∷ rest) rest) e

pub entry_no : (text : List ℕ) (at : ℕ) (line : Line) → lines_from text at ≡ line ∷ lines_from text line.next
    → is_entry (said text line) ≡ false → is_of_trace (said text line) ≡ true
    → entries text at ≡ entries text line.next
unfolding entries
entry_no text at line h e f =
    let rest : List Line = taken text (lines_from text line.next) in
    ap (taken text) h ∙ step text line (lines_from text line.next)
    ∙ ap (λ t. cond t (cond (is_entry (said text line)) (line ∷ rest) rest) []) f
    ∙ ap (λ t. cond t (line ∷ rest) rest) e

pub entry_end : (text : List ℕ) (at : ℕ) (line : Line) → lines_from text at ≡ line ∷ lines_from text line.next
    → is_of_trace (said text line) ≡ false → entries text at ≡ []
unfolding entries
entry_end text at line h f =
    let rest : List Line = taken text (lines_from text line.next) in
    ap (taken text) h ∙ step text line (lines_from text line.next)
    ∙ ap (λ t. cond t (cond (is_entry (said text line)) (line ∷ rest) rest) []) f

pub entry_past : (text : List ℕ) (at : ℕ) → lines_from text at ≡ [] → entries text at ≡ []
unfolding entries
entry_past text at h = ap (taken text) h

-- an entry that is not to blame is passed
pub blame_no : (text : List ℕ) (hangs : Bool) (line : Line) (lines : List Line)
    → is_helper hangs (unplaced (said text line)) ≡ true → to_blame text hangs (line ∷ lines)
    ≡ to_blame text hangs lines
unfolding to_blame
blame_no text hangs line lines e = ap (λ t. cond t (to_blame text hangs lines) (Some line)) e

pub blame_yes : (text : List ℕ) (hangs : Bool) (line : Line) (lines : List Line)
    → is_helper hangs (unplaced (said text line)) ≡ false → to_blame text hangs (line ∷ lines) ≡ Some line
unfolding to_blame
blame_yes text hangs line lines e = ap (λ t. cond t (to_blame text hangs lines) (Some line)) e

pub blame_none : (text : List ℕ) (hangs : Bool) → to_blame text hangs [] ≡ None
unfolding to_blame
blame_none text hangs = refl
