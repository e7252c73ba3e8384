-- A script has at most one line more than it has bytes
use Rattle.std.proofs.Common.{◌≡◌, ℕ, ◌+◌, ◌≤◌, Bool, true, false, cond, ◌==◌, List, [], ◌∷◌, length, Option, Some}
use Rattle.std.proofs.Common.{None, Result, Ok, Err, refl, sym, arith}
use Rattle.std.specs.List.{slice_split}
use Rattle.std.proofs.lemmas.List.Splits.{length-slice_split}
use Rattle.std.proofs.lemmas.List.Sums.{count_by-le-length}
use Rattle.grammar_spec.specs.Fields.{Text}
use Rattle.grammar_spec.specs.Lines.{script_of, lines_from, with_line, line_of}
use Rattle.grammar_spec.specs.declared.line.Line.{Line}

-- a line in front of others, where both were read
read_both : (o : Option Line) (n : ℕ) (others : Result (List Line) ℕ) (lines : List Line)
    → with_line o n others ≡ Ok lines → (line : Line) × (rest : List Line) × (others ≡ Ok rest) × (lines ≡ line ∷ rest)
read_both None n others lines h = absurd (cc)
read_both (Some line) n (Ok rest) lines h = let same : line ∷ rest ≡ lines = cc in (line, rest, refl, sym same)
read_both (Some line) n (Err later) lines h = absurd (cc)

last_empty : (b : Bool) (n : ℕ) (lines : List Line) → cond b (Ok []) (Err n) ≡ Ok lines → lines ≡ []
last_empty true n lines h = cc
last_empty false n lines h = absurd (cc)

lines_few : (n : ℕ) (texts : List Text) (lines : List Line) → lines_from n texts ≡ Ok lines
    → length lines ≤ length texts
unfolding lines_from
lines_few n [] lines h = let none : [] ≡ lines = cc in rw (← none) (omega arith)
lines_few n (text ∷ []) lines h = rw (last_empty (length text == 0) n lines h) (omega arith)
lines_few n (text ∷ next ∷ texts) lines h =
    let parts = read_both (line_of text) n (lines_from (n + 1) (next ∷ texts)) lines h in
    rw parts.3 (omega (arith, lines_few (n + 1) (next ∷ texts) parts.1 parts.2))

pub few : (script : List ℕ) (lines : List Line) → script_of script ≡ Ok lines → length lines ≤ length script + 1
unfolding script_of
few script lines h = omega (
  arith,
  lines_few 1 (slice_split (λ b. b == 0x0a) script) lines h,
  length-slice_split (λ (b : ℕ). b == 0x0a) script,
  count_by-le-length (λ (b : ℕ). b == 0x0a) script,
)
