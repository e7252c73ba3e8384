-- The words of a line, cut one after another
use Rattle.std.proofs.Common.{◌≡◌, ℕ, ◌+◌, ◌≤◌, ◌<◌, Bool, true, false, not, ◌&&◌, ◌==◌, cond, List, [], ◌∷◌, ◌++◌}
use Rattle.std.proofs.Common.{length, take, drop, refl, sym, ap, ◌∙◌, arith, append_assoc, append-nil, slice_index}
use Rattle.std.proofs.Common.{get_or, add-one, subst}
use Rattle.std.proofs.lemmas.Bool.Decides.{nat_tests}
use Rattle.std.proofs.lemmas.List.{drop_all}
use Rattle.std.proofs.Math.Seq.{take-suc, drop-cons}
use Rattle.std.specs.List.{onto_first}
use Rattle.kernel_line.specs.Line.{is_white, is_quote, words_from}

-- the words with this before the first
abbrev pub fronted : List ℕ → List (List ℕ) → List (List ℕ)
fronted p [] = p ∷ []
fronted p (w ∷ ws) = (p ++ w) ∷ ws

fronted-onto_first : (p : List ℕ) (b : ℕ) (ws : List (List ℕ)) → fronted p (onto_first b ws) ≡ fronted (p ++ b ∷ []) ws
fronted-onto_first p b [] = refl
fronted-onto_first p b (w ∷ ws) = ap (λ x. x ∷ ws) (sym (append_assoc p (b ∷ []) w))

fronted-none : (b : ℕ) (ws : List (List ℕ)) → fronted [] (onto_first b ws) ≡ onto_first b ws
fronted-none b [] = refl
fronted-none b (w ∷ ws) = refl

-- nothing read
pub none_read : (is_within : Bool) (line : List ℕ) → fronted [] (words_from is_within line) ≡ words_from is_within line
unfolding words_from
none_read is_within [] = refl
none_read is_within (b ∷ bs) = by (is_white b && not is_within)
  where
    rest : List (List ℕ)
    rest = words_from (cond (is_quote b) (not is_within) is_within) bs

    by : (t : Bool) → fronted [] (cond t ([] ∷ rest) (onto_first b rest)) ≡ cond t ([] ∷ rest) (onto_first b rest)
    by true = refl
    by false = fronted-none b rest

-- one byte more, which is no separator
pub byte_read : (is_within : Bool) (front : List ℕ) (b : ℕ) (bs : List ℕ) → (is_white b && not is_within) ≡ false
    → fronted front (words_from is_within (b ∷ bs))
    ≡ fronted (front ++ b ∷ []) (words_from (cond (is_quote b) (not is_within) is_within) bs)
unfolding words_from
byte_read is_within front b bs e =
    let rest : List (List ℕ) = words_from (cond (is_quote b) (not is_within) is_within) bs in
    ap (λ t. fronted front (cond t ([] ∷ rest) (onto_first b rest))) e ∙ fronted-onto_first front b rest

-- white space is no quote
white_is_no_quote : (b : ℕ) → is_white b ≡ true → is_quote b ≡ false
white_is_no_quote b h = by (is_quote b) refl
  where
    by : (t : Bool) → is_quote b ≡ t → t ≡ false
    by false e = refl
    by true e =
        let same : b ≡ 34 = grind (arith, nat_tests, e) in
        let n : true ≡ false = sym h ∙ ap is_white same in n

-- a separator ends the first word
pub word_read : (front : List ℕ) (b : ℕ) (bs : List ℕ) → is_white b ≡ true
    → fronted front (words_from false (b ∷ bs)) ≡ front ∷ words_from false bs
unfolding words_from
word_read front b bs e =
    ap (λ q. fronted front (cond (is_white b && true) ([] ∷ words_from (cond q true false) bs)
    (onto_first b (words_from (cond q true false) bs)))) (white_is_no_quote b e)
    ∙ ap (λ t. fronted front (cond (t && true) ([] ∷ words_from false bs) (onto_first b (words_from false bs)))) e
    ∙ ap (λ w. w ∷ words_from false bs) (append-nil front)

-- the line's end ends the last word
pub last_read : (is_within : Bool) (front : List ℕ) → fronted front (words_from is_within []) ≡ front ∷ []
unfolding words_from
last_read is_within front = ap (λ w. w ∷ []) (append-nil front)

-- the byte at a place
after_byte : (line : List ℕ) (i : ℕ) → i < length line → drop i line ≡ get_or line i 0 ∷ drop (i + 1) line
after_byte line i inside = drop-cons line i 0 inside ∙ ap (λ k. get_or line i 0 ∷ drop k line) (sym (add-one i))

with_byte : (line : List ℕ) (i : ℕ) → i < length line → take (i + 1) line ≡ take i line ++ get_or line i 0 ∷ []
with_byte line i inside = ap (λ k. take k line) (add-one i) ∙ take-suc line i 0 inside

pub more_read : (line : List ℕ) (i : ℕ) (q q' : Bool) → i < length line → (is_white (get_or line i 0) && not q) ≡ false
    → q' ≡ cond (is_quote (get_or line i 0)) (not q) q
    → fronted (take i line) (words_from q (drop i line)) ≡ words_from false line
    → fronted (take (i + 1) line) (words_from q' (drop (i + 1) line)) ≡ words_from false line
more_read line i q q' inside inner turned so_far =
    ap (λ t. fronted t (words_from q' (drop (i + 1) line))) (with_byte line i inside)
    ∙ ap (λ t. fronted (take i line ++ get_or line i 0 ∷ []) (words_from t (drop (i + 1) line))) turned
    ∙ sym (byte_read q (take i line) (get_or line i 0) (drop (i + 1) line) inner)
    ∙ ap (λ t. fronted (take i line) (words_from q t)) (sym (after_byte line i inside))
    ∙ so_far

pub ended_within : (line : List ℕ) (i : ℕ) → i < length line → is_white (get_or line i 0) ≡ true
    → fronted (take i line) (words_from false (drop i line)) ≡ words_from false line
    → words_from false line ≡ take i line ∷ cond (i == length line) [] (words_from false (drop (i + 1) line))
ended_within line i inside white so_far =
    sym so_far
    ∙ ap (λ t. fronted (take i line) (words_from false t)) (after_byte line i inside)
    ∙ word_read (take i line) (get_or line i 0) (drop (i + 1) line) white
    ∙ ap (λ t. take i line ∷ cond t [] (words_from false (drop (i + 1) line))) (sym (other i (length line) inside))
  where
    other : (m n : ℕ) → m < n → (m == n) ≡ false
    other m n h = grind (arith, nat_tests, h)

pub ended_behind : (line : List ℕ) (i : ℕ) (q : Bool) → i ≤ length line → length line ≤ i
    → fronted (take i line) (words_from q (drop i line)) ≡ words_from false line
    → words_from false line ≡ take i line ∷ cond (i == length line) [] (words_from false (drop (i + 1) line))
ended_behind line i q within reached so_far =
    sym so_far
    ∙ ap (λ t. fronted (take i line) (words_from q t)) (drop_all i line reached)
    ∙ last_read q (take i line)
    ∙ ap (λ t. take i line ∷ cond t [] (words_from false (drop (i + 1) line)))
    (sym (same i (length line) within reached))
  where
    same : (m n : ℕ) → m ≤ n → n ≤ m → (m == n) ≡ true
    same m n h k = grind (arith, nat_tests, h, k)

-- a byte that is no separator
pub within_quotes : (a q : Bool) → q ≡ true → (a && not q) ≡ false
within_quotes true true e = refl
within_quotes false true e = refl
within_quotes true false e = sym e
within_quotes false false e = refl

pub not_white : (r a q : Bool) → r ≡ a → r ≡ false → (a && not q) ≡ false
not_white r a q same e = ap (λ t. t && not q) (sym same ∙ e)

-- whether a quote is open after a byte
pub turns : (b : ℕ) (q q' : Bool) → b ≡ 34 → q' ≡ not q → q' ≡ cond (is_quote b) (not q) q
turns b q q' e h = h ∙ ap (λ (x : ℕ). cond (is_quote x) (not q) q) (sym e)

pub stays : (b : ℕ) (q q' : Bool) → (b ≡ 34 → ⊥) → q' ≡ q → q' ≡ cond (is_quote b) (not q) q
stays b q q' other h =
    let e : is_quote b ≡ false = grind (arith, nat_tests, other) in
    h ∙ ap (λ t. cond t (not q) q) (sym e)
