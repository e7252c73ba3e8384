-- Lines that are cut into rows
use Rattle.std.proofs.Common.{◌≡◌, ℕ, ◌+◌, ◌≤◌, ◌==◌, Bool, true, false, cond, nat_lt, List, [], ◌∷◌, ◌++◌, length, map}
use Rattle.std.proofs.Common.{All, refl, ap, ◌∙◌, subst, arith, append_assoc}
use Rattle.std.specs.List.{slice_split, onto_first}
use Rattle.std.proofs.lemmas.Bool.Decides.{nat_tests}
use Rattle.std.proofs.lemmas.List.Elements.{All-cons, All-nil}
use Rattle.std.proofs.lemmas.List.Sums.{sum_by-append}
use Rattle.report_spec.specs.Escaped.{is_plain, shown}
use Rattle.report_spec.specs.Visible.{visible_byte}
use Rattle.report_text.specs.Tails.{columns, rows_from}
use Rattle.report_text.specs.Rows.{width, joined, AreCutFrom}

abbrev lines : List ℕ → List (List ℕ)
lines bytes = slice_split (λ b. b == 10) bytes

-- the lines with this before the first
abbrev fronted : List ℕ → List (List ℕ) → List (List ℕ)
fronted p [] = p ∷ []
fronted p (w ∷ ws) = (p ++ w) ∷ ws

abbrev before_first_of : List ℕ → List (List ℕ) → List (List ℕ)
before_first_of p [] = []
before_first_of p (w ∷ ws) = (p ++ w) ∷ ws

fronted-none : (bytes : List ℕ) → fronted [] (lines bytes) ≡ lines bytes
fronted-none [] = refl
fronted-none (b ∷ bs) = by (b == 10) (lines bs)
  where
    by : (t : Bool) (ls : List (List ℕ))
        → fronted [] (cond t ([] ∷ ls) (onto_first b ls)) ≡ cond t ([] ∷ ls) (onto_first b ls)
    by true ls = refl
    by false [] = refl
    by false (l ∷ ls) = refl

fronted-more : (p : List ℕ) (b : ℕ) (ls : List (List ℕ)) → fronted (p ++ b ∷ []) ls ≡ fronted p (onto_first b ls)
fronted-more p b [] = refl
fronted-more p b (l ∷ ls) = ap (λ (x : List ℕ). x ∷ ls) (append_assoc p (b ∷ []) l)

before-fronted : (p : List ℕ) (b : ℕ) (ls : List (List ℕ))
    → before_first_of p (fronted (b ∷ []) ls) ≡ fronted p (onto_first b ls)
before-fronted p b [] = refl
before-fronted p b (l ∷ ls) = refl

some-line : (p : List ℕ) (ls : List (List ℕ)) → ◌≡◌ {A = List (List ℕ)} [] (fronted p ls) → ⊥
some-line p [] e = cc
some-line p (l ∷ ls) e = cc

-- a line's end after a row
ended : (row : List ℕ) (ls rows : List (List ℕ)) → fronted [] ls ≡ ls → AreCutFrom (fronted [] ls) rows
    → AreCutFrom (fronted row ([] ∷ ls)) (row ∷ rows)
ended row ls rows same c = record {
  cuts = (row ∷ []) ∷ c.cuts;
  of_lines = ap (λ (ws : List (List ℕ)). (row ++ []) ∷ ws) (c.of_lines ∙ same);
  of_rows = ap (λ (ws : List (List ℕ)). row ∷ ws) c.of_rows;
}

-- a row that is full
full : (row : List ℕ) (b : ℕ) (ls rows : List (List ℕ)) → AreCutFrom (fronted (b ∷ []) ls) rows
    → AreCutFrom (fronted row (onto_first b ls)) (row ∷ rows)
full row b ls rows c = by c.cuts c.of_lines c.of_rows
  where
    by : (cuts : List (List (List ℕ))) → map joined cuts ≡ fronted (b ∷ []) ls → joined cuts ≡ rows
        → AreCutFrom (fronted row (onto_first b ls)) (row ∷ rows)
    by [] e h = absurd (some-line (b ∷ []) ls e)
    by (cut ∷ cuts) e h = record {
      cuts = (row ∷ cut) ∷ cuts;
      of_lines = ap (λ (ws : List (List ℕ)). before_first_of row ws) e ∙ before-fronted row b ls;
      of_rows = ap (λ (ws : List (List ℕ)). row ∷ ws) h;
    }

pub cut : (row : List ℕ) (taken : ℕ) (bytes : List ℕ)
    → AreCutFrom (fronted row (lines bytes)) (rows_from row taken bytes)
unfolding rows_from
cut [] taken [] = record { cuts = [] ∷ []; of_lines = refl; of_rows = refl }
cut (x ∷ xs) taken [] = record { cuts = ((x ∷ xs) ∷ []) ∷ []; of_lines = refl; of_rows = refl }
cut row taken (b ∷ bs) =
    by (b == 10) (nat_lt 76 (taken + columns b)) (cut [] 0 bs) (cut (b ∷ []) (columns b) bs)
    (cut (row ++ b ∷ []) (taken + columns b) bs)
  where
    by : (newline over : Bool) → AreCutFrom (fronted [] (lines bs)) (rows_from [] 0 bs)
        → AreCutFrom (fronted (b ∷ []) (lines bs)) (rows_from (b ∷ []) (columns b) bs)
        → AreCutFrom (fronted (row ++ b ∷ []) (lines bs)) (rows_from (row ++ b ∷ []) (taken + columns b) bs)
        → AreCutFrom (fronted row (cond newline ([] ∷ lines bs) (onto_first b (lines bs))))
        (cond newline (row ∷ rows_from [] 0 bs) (cond over (row ∷ rows_from (b ∷ []) (columns b) bs)
        (rows_from (row ++ b ∷ []) (taken + columns b) bs)))
    by true over c d e = ended row (lines bs) (rows_from [] 0 bs) (fronted-none bs) c
    by false true c d e = full row b (lines bs) (rows_from (b ∷ []) (columns b) bs) d
    by false false c d e =
        subst (λ (ls : List (List ℕ)). AreCutFrom ls (rows_from (row ++ b ∷ []) (taken + columns b) bs))
        (fronted-more row b (lines bs)) e

pub all_cut : (bytes : List ℕ) → AreCutFrom (lines bytes) (rows_from [] 0 bytes)
all_cut bytes =
    subst (λ (ls : List (List ℕ)). AreCutFrom ls (rows_from [] 0 bytes)) (fronted-none bytes) (cut [] 0 bytes)

-- ---- widths

few : (b : ℕ) → columns b ≤ 76
few b = by (b == 9) (is_plain b)
  where
    by : (t u : Bool) → cond t 8 (cond u 1 4) ≤ 76
    by true u = omega arith
    by false true = omega arith
    by false false = omega arith

one : (b : ℕ) → width (b ∷ []) ≡ columns b
one b = omega arith

pub narrow : (row : List ℕ) (taken : ℕ) (bytes : List ℕ) → width row ≡ taken → taken ≤ 76
    → All (λ row. width row ≤ 76) (rows_from row taken bytes)
unfolding rows_from
narrow [] taken [] e h = All-nil (λ (row : List ℕ). width row ≤ 76)
narrow (x ∷ xs) taken [] e h =
    All-cons (λ (row : List ℕ). width row ≤ 76) (x ∷ xs) [] (omega (arith, e, h))
    (All-nil (λ (row : List ℕ). width row ≤ 76))
narrow row taken (b ∷ bs) e h =
    by (b == 10) (nat_lt 76 (taken + columns b)) refl (narrow [] 0 bs refl (omega arith))
    (narrow (b ∷ []) (columns b) bs (one b) (few b))
    (λ fits. narrow (row ++ b ∷ []) (taken + columns b) bs
    (sum_by-append columns row (b ∷ []) ∙ ap (λ (n : ℕ). n + width (b ∷ [])) e
    ∙ ap (λ (n : ℕ). taken + n) (one b)) fits)
  where
    by : (newline over : Bool) → nat_lt 76 (taken + columns b) ≡ over
        → All (λ row. width row ≤ 76) (rows_from [] 0 bs)
        → All (λ row. width row ≤ 76) (rows_from (b ∷ []) (columns b) bs)
        → (taken + columns b ≤ 76 → All (λ row. width row ≤ 76) (rows_from (row ++ b ∷ []) (taken + columns b) bs))
        → All (λ row. width row ≤ 76)
        (cond newline (row ∷ rows_from [] 0 bs) (cond over (row ∷ rows_from (b ∷ []) (columns b) bs)
        (rows_from (row ++ b ∷ []) (taken + columns b) bs)))
    by true over t c d k =
        All-cons (λ (row : List ℕ). width row ≤ 76) row (rows_from [] 0 bs) (omega (arith, e, h)) c
    by false true t c d k =
        All-cons (λ (row : List ℕ). width row ≤ 76) row (rows_from (b ∷ []) (columns b) bs) (omega (arith, e, h)) d
    by false false t c d k = k (grind (arith, nat_tests, t))

pub shown-width : (b : ℕ) → (b == 9) ≡ false → columns b ≡ length (visible_byte b)
shown-width b e = ap (λ (t : Bool). cond t 8 (cond (is_plain b) 1 4)) e ∙ by (is_plain b)
  where
    by : (t : Bool) → cond t 1 4 ≡ length (cond t (b ∷ []) (shown b))
    by true = refl
    by false = refl
