-- The words of a line without quotes
use Rattle.std.proofs.Common.{◌≡◌, ℕ, ◌+◌, Bool, true, false, not, ◌&&◌, cond, List, [], ◌∷◌, All, refl, ap, ◌∙◌}
use Rattle.std.proofs.lemmas.List.Elements.{All-head, All-tail}
use Rattle.std.specs.List.{slice_split, onto_first}
use Rattle.kernel_line.specs.Line.{is_white, is_quote, words_from}

pub plain : (line : List ℕ) → All (λ b. is_quote b ≡ false) line → words_from false line ≡ slice_split is_white line
unfolding words_from
plain [] h = refl
plain (b ∷ bs) h =
    let rest : words_from false bs ≡ slice_split is_white bs =
    plain bs (All-tail (λ c. is_quote c ≡ false) b bs h) in
    ap (λ q. with_byte (is_white b && true) (words_from (cond q true false) bs))
    (All-head (λ c. is_quote c ≡ false) b bs h)
    ∙ ap (λ ws. with_byte (is_white b && true) ws) rest
    ∙ same (is_white b)
  where
    with_byte : Bool → List (List ℕ) → List (List ℕ)
    with_byte t ws = cond t ([] ∷ ws) (onto_first b ws)

    same : (t : Bool) → with_byte (t && true) (slice_split is_white bs)
        ≡ cond t ([] ∷ slice_split is_white bs) (onto_first b (slice_split is_white bs))
    same true = refl
    same false = refl
