-- Parts that are added in two steps
use Rattle.std.proofs.Common.{◌≡◌, List, [], ◌∷◌, ◌++◌, sym, ap, ◌∙◌, append_assoc}
use Rattle.report_text.specs.Pieces.{Part}

pub joined : (old a b mid new : List Part) → mid ≡ old ++ a → new ≡ mid ++ b → new ≡ old ++ (a ++ b)
joined old a b mid new first second = second ∙ ap (λ (ps : List Part). ps ++ b) first ∙ append_assoc old a b

-- one part, and then the rest
pub split : (old : List Part) (x : Part) (xs : List Part) → old ++ (x ∷ xs) ≡ (old ++ x ∷ []) ++ xs
split old x xs = sym (append_assoc old (x ∷ []) xs)
