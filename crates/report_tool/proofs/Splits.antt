-- A text split at the first of a byte, once or at each
use Rattle.std.proofs.Common.{◌||◌, All, ◌≡◌, ℕ, ◌<◌, ◌==◌, Bool, true, false, List, [], ◌∷◌, ◌++◌, length, Option}
use Rattle.std.proofs.Common.{Some, None, refl, sym, ap, ◌∙◌, arith, Bor}
use Rattle.std.specs.Option.{option_map}
use Rattle.std.specs.List.{list_any, position_or_len, before_first, after_first, slice_split, filter}
use Rattle.std.proofs.lemmas.List.Elements.{filter-append, All-cons, All-nil}
use Rattle.std.proofs.lemmas.Bool.{le-ltb, lt-ltb}
use Rattle.std.proofs.lemmas.List.Splits.{slice_split_first, slice_split_none}
use Rattle.std.proofs.lemmas.Str.Pattern.{split_once_first, IsSplitOnceResult}
use Rattle.ramoops_layout.proofs.Texts.{if_true, if_false, any_before_end}
use Rattle.report_tool.specs.Version.{split_at}

neither : (a b : Bool) → (a || b) ≡ false → (a ≡ false) × (b ≡ false)
neither true b e = cc
neither false b e = (refl, e)

none_passes : (q : ℕ → Bool) (xs : List ℕ) → list_any q xs ≡ false → All (λ x. q x ≡ false) xs
none_passes q [] e = All-nil (λ y. q y ≡ false)
none_passes q (x ∷ xs) e =
    let both = neither (q x) (list_any q xs) e in All-cons (λ y. q y ≡ false) x xs both.0 (none_passes q xs both.1)

-- a text without the byte
pub unsplit : (c : ℕ) (bs : List ℕ) (r : Option (Bor (List ℕ) × Bor (List ℕ))) → IsSplitOnceResult c bs r → c < 128
    → r ≡ None → list_any (λ b. b == c) bs ≡ false
unsplit c bs None h low e = any_before_end (λ b. b == c) bs
    ∙ le-ltb (position_or_len (λ b. b == c) bs) (length bs)
    (omega (arith, split_once_first c bs None h low))
unsplit c bs (Some x) h low e = cc

-- what `split_once` gives
pub split_once_is : (c : ℕ) (bs : List ℕ) (r : Option (Bor (List ℕ) × Bor (List ℕ))) → IsSplitOnceResult c bs r
    → c < 128 → option_map (λ parts. (parts.0.now, parts.1.now)) r ≡ split_at c bs
split_once_is c bs None h low = sym (if_false (list_any (λ b. b == c) bs) _ _ (unsplit c bs None h low refl))
split_once_is c bs (Some x) h low =
    let first = split_once_first c bs (Some x) h low in
    let some : list_any (λ b. b == c) bs ≡ true =
    any_before_end (λ b. b == c) bs ∙ lt-ltb (position_or_len (λ b. b == c) bs) (length bs) first.0 in
    rw (first.1, first.2) (sym (if_true (list_any (λ b. b == c) bs) _ _ some))

-- the words of a line: the first, and those behind it
pub words_step : (p : List ℕ → Bool) (bs : List ℕ) → position_or_len (λ b. b == 32) bs < length bs
    → filter p (slice_split (λ b. b == 32) bs)
    ≡ filter p (before_first (λ b. b == 32) bs ∷ []) ++ filter p
    (slice_split (λ b. b == 32) (after_first (λ b. b == 32) bs))
words_step p bs inside =
    ap (filter p) (slice_split_first (λ b. b == 32) bs 0 inside)
    ∙ filter-append p (before_first (λ b. b == 32) bs ∷ []) (slice_split (λ b. b == 32) (after_first (λ b. b == 32) bs))

-- a line without a space is one word
pub words_end : (p : List ℕ → Bool) (bs : List ℕ) (r : Option (Bor (List ℕ) × Bor (List ℕ)))
    → IsSplitOnceResult 32 bs r → r ≡ None → filter p (slice_split (λ b. b == 32) bs) ≡ filter p (bs ∷ [])
words_end p bs r h none =
    ap (filter p) (slice_split_none (λ b. b == 32) bs
    (none_passes (λ b. b == 32) bs (unsplit 32 bs r h (omega arith) none)))
