-- The lines of a log, end to end, are the log. For the law `a_log_is_its_lines`.
use Rattle.std.proofs.Common.{◌≡◌, ℕ, ◌+◌, ◌-◌, ◌==◌, Bool, true, if◌then◌else◌, List, [], ◌∷◌, ◌++◌, length, take}
use Rattle.std.proofs.Common.{drop, refl, ap, ap₂, ◌∙◌, sym, subst, arith, append_assoc, append-nil}
use Rattle.std.specs.Prelude.{flat_map, nat_le}
use Rattle.std.proofs.lemmas.Bool.Decides.{nat_tests}
use Rattle.std.specs.List.{slice_split, join_with_byte}
use Rattle.std.proofs.Math.Seq.{drop-append_seam, take-append-add}
use Rattle.std.proofs.lemmas.List.{take_all, length-append, length_push}
use Rattle.std.proofs.lemmas.List.Splits.{join_with_byte-slice_split}
use Rattle.death_spec.specs.Lines.{line_of, lines_at, lines_from}
use Rattle.report_html.specs.Logs.{line_bytes}

-- a line's bytes are those at its place, with the newline
line-here : (at : ℕ) (piece front rest : List ℕ) → length front ≡ at
    → line_bytes (front ++ rest) (line_of at piece) ≡ take (length piece + 1) rest
unfolding line_of
line-here at piece front rest e =
    ap (λ (n : ℕ). take n (drop at (front ++ rest)))
    (let f : at + length piece + 1 - at ≡ length piece + 1 = omega arith in f)
    ∙ ap (λ (m : ℕ). take (length piece + 1) (drop m (front ++ rest))) (sym e)
    ∙ ap (λ (ys : List ℕ). take (length piece + 1) ys) (drop-append_seam front rest)

-- the lines behind a front
walk : (at : ℕ) (pieces : List (List ℕ)) (front : List ℕ) → length front ≡ at
    → flat_map (line_bytes (front ++ join_with_byte 10 pieces)) (lines_at at pieces) ≡ join_with_byte 10 pieces
unfolding lines_at
walk at [] front e = refl
walk at (x ∷ []) front e =
    append-nil (line_bytes (front ++ x) (line_of at x)) ∙ line-here at x front x e
    ∙ take_all (length x + 1) x (omega arith)
walk at (x ∷ y ∷ ys) front e =
    let rest : List ℕ = join_with_byte 10 (y ∷ ys) in
    let onward : List ℕ = front ++ (x ++ 10 ∷ []) in
    let next : ℕ = at + length x + 1 in
    let a = length-append front (x ++ 10 ∷ []) in
    let b = length_push x 10 in
    let long : length onward ≡ next = omega (arith, a, b, e) in
    let same : onward ++ rest ≡ front ++ (x ++ 10 ∷ rest) =
    append_assoc front (x ++ 10 ∷ []) rest ∙ ap (λ (ys : List ℕ). front ++ ys) (append_assoc x (10 ∷ []) rest) in
    let first : line_bytes (front ++ (x ++ 10 ∷ rest)) (line_of at x) ≡ x ++ 10 ∷ [] =
    line-here at x front (x ++ 10 ∷ rest) e ∙ take-append-add x (10 ∷ rest) 1 in
    let others : flat_map (line_bytes (front ++ (x ++ 10 ∷ rest))) (lines_at next (y ∷ ys)) ≡ rest =
    subst (λ (t : List ℕ). flat_map (line_bytes t) (lines_at next (y ∷ ys)) ≡ rest) same
    (walk next (y ∷ ys) onward long) in
    ap₂ (λ (u v : List ℕ). u ++ v) first others ∙ append_assoc x (10 ∷ []) rest

pub log-is-lines : (text : List ℕ) → flat_map (line_bytes text) (lines_from text 0) ≡ text
unfolding lines_from
log-is-lines text =
    let pieces : List (List ℕ) = slice_split (λ b. b == 10) text in
    let whole : join_with_byte 10 pieces ≡ text = join_with_byte-slice_split 10 text in
    let here : nat_le 0 (length text) ≡ true = grind (arith, nat_tests) in
    ap (λ (t : Bool). flat_map (line_bytes text) (if t then lines_at 0 pieces else [])) here
    ∙ subst (λ (t : List ℕ). flat_map (line_bytes t) (lines_at 0 pieces) ≡ t) whole (walk 0 pieces [] refl)
