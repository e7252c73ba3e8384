-- All that is handed out, end to end
use Rattle.std.proofs.Common.{◌≡◌, ℕ, ◌+◌, List, [], ◌∷◌, ◌++◌, length, take, drop, sym, ap, ap₂, ◌∙◌, arith}
use Rattle.std.specs.List.{flat_map}
use Rattle.std.proofs.lemmas.List.{drop_all, drop-drop, take-append-drop}
use Rattle.zone_spec.specs.Stores.{Store}

-- what answers hand out, from the m-th of all stores of a call on to the last: each as `next` ensures (handed, made,
-- finished)
abbrev pub InTurn : List Store → ℕ → List (List Store) → Type 0
InTurn all m [] = m ≡ length all
InTurn all m (xs ∷ xss) = (xs ≡ take (length xs) (drop m all)) × InTurn all (m + length xs) xss

-- so answers from the begin on hand out all stores, in order
pub handed_out_whole : (all : List Store) (m : ℕ) (xss : List (List Store)) → InTurn all m xss
    → flat_map (λ xs. xs) xss ≡ drop m all
handed_out_whole all m [] e = sym (drop_all m all (omega (arith, e)))
handed_out_whole all m (xs ∷ xss) h =
    ap₂ (λ u v. u ++ v) h.0 (handed_out_whole all (m + length xs) xss h.1)
    ∙ ap (λ v. take (length xs) (drop m all) ++ v) (sym (drop-drop (length xs) m all))
    ∙ take-append-drop (length xs) (drop m all)
