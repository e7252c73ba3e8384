-- The lines of a text, one after the other
use Rattle.std.proofs.Common.{◌≡◌, ℕ, ◌+◌, ◌≤◌, ◌<◌, Bool, true, false, cond, ◌==◌, nat_lt, List, [], ◌∷◌, length, take}
use Rattle.std.proofs.Common.{drop, refl, sym, ap, ◌∙◌, arith, subst}
use Rattle.std.proofs.lemmas.Bool.Decides.{nat_tests}
use Rattle.std.proofs.lemmas.Bool.{le-leb, lt-leb}
use Rattle.std.proofs.lemmas.List.{take_all, length-take-le, length-drop, drop-drop}
use Rattle.std.proofs.lemmas.List.Splits.{slice_split_first, slice_split_none}
use Rattle.std.proofs.lemmas.List.Sums.{fails_before_first}
use Rattle.std.specs.List.{slice_split}
use Rattle.death_spec.specs.declared.Class.TheVariants.{Line}
use Rattle.death_spec.specs.Marks.{run}
use Rattle.death_spec.specs.Lines.{line_of, lines_at, lines_from}

abbrev pieces : List ℕ → List (List ℕ)
pieces bytes = slice_split (λ b. b == 10) bytes

-- past the end there are none
pub none_past : (text : List ℕ) (at : ℕ) → length text < at → lines_from text at ≡ []
unfolding lines_from
none_past text at h = ap (λ t. cond t (lines_at at (pieces (drop at text))) []) (lt-leb at (length text) h)

lines_here : (text : List ℕ) (at : ℕ) → at ≤ length text → lines_from text at ≡ lines_at at (pieces (drop at text))
unfolding lines_from
lines_here text at h = ap (λ t. cond t (lines_at at (pieces (drop at text))) []) (le-leb at (length text) h)

-- a line that a newline ends
ended_line : (bytes : List ℕ) (at n : ℕ) → n ≡ run Line bytes → n < length bytes
    → lines_at at (pieces bytes) ≡ line_of at (take n bytes) ∷ lines_at (at + n + 1) (pieces (drop (n + 1) bytes))
unfolding lines_at
ended_line bytes at n e h =
    ap (lines_at at) (slice_split_first (λ b. b == 10) bytes 0 (subst (λ (k : ℕ). k < length bytes) e h))
    ∙ ap (λ k. line_of at (take k bytes) ∷ lines_at (at + length (take k bytes) + 1) (pieces (drop (k + 1) bytes)))
    (sym e)
    ∙ ap (λ k. line_of at (take n bytes) ∷ lines_at (at + k + 1) (pieces (drop (n + 1) bytes)))
    (length-take-le n bytes (omega (arith, h)))

-- the last line
last_line : (bytes : List ℕ) (at n : ℕ) → n ≡ run Line bytes → length bytes ≤ n
    → lines_at at (pieces bytes) ≡ line_of at (take n bytes) ∷ []
unfolding lines_at
last_line bytes at n e h =
    ap (lines_at at) (slice_split_none (λ b. b == 10) bytes
    (λ k d inside. fails_before_first (λ b. b == 10) bytes k d
    (subst (λ (m : ℕ). k < m) e (omega (arith, inside, h)))))
    ∙ ap (λ b. line_of at b ∷ []) (sym (take_all n bytes h))

-- the line at a place, and those from the next one on
pub first_line : (text : List ℕ) (at n : ℕ) → at ≤ length text → n ≡ run Line (drop at text)
    → lines_from text at ≡ line_of at (take n (drop at text)) ∷ lines_from text (at + n + 1)
first_line text at n inside e = by (nat_lt n (length (drop at text))) refl
  where
    ended : n < length (drop at text)
        → lines_from text (at + n + 1) ≡ lines_at (at + n + 1) (pieces (drop (n + 1) (drop at text)))
    ended h = lines_here text (at + n + 1) (omega (arith, h, length-drop at text))
        ∙ ap (λ k. lines_at (at + n + 1) (pieces (drop k text))) (omega (arith))
        ∙ ap (λ bytes. lines_at (at + n + 1) (pieces bytes)) (sym (drop-drop (n + 1) at text))

    by : (t : Bool) → nat_lt n (length (drop at text)) ≡ t
        → lines_from text at ≡ line_of at (take n (drop at text)) ∷ lines_from text (at + n + 1)
    by true t =
        let h : n < length (drop at text) = grind (arith, nat_tests, t) in
        lines_here text at inside ∙ ended_line (drop at text) at n e h
        ∙ ap (λ ls. line_of at (take n (drop at text)) ∷ ls) (sym (ended h))
    by false t =
        let h : length (drop at text) ≤ n = grind (arith, nat_tests, t) in
        lines_here text at inside ∙ last_line (drop at text) at n e h
        ∙ ap (λ ls. line_of at (take n (drop at text)) ∷ ls)
        (sym (none_past text (at + n + 1) (omega (arith, h, length-drop at text))))

-- where the next line begins
pub next_of : (at : ℕ) (piece : List ℕ) (n : ℕ) → n ≡ length piece → (line_of at piece).next ≡ at + n + 1
unfolding line_of
next_of at piece n e = ap (λ k. at + k + 1) (sym e)
