-- A zone's span among the spans of a cut image
use Rattle.std.proofs.Common.{◌≡◌, ℕ, zero, suc, ◌+◌, ◌<◌, List, [], ◌∷◌, ◌++◌, length, take, drop, get_or, refl, sym}
use Rattle.std.proofs.Common.{ap, ◌∙◌, arith, append_assoc}
use Rattle.std.specs.List.{concat}
use Rattle.std.proofs.lemmas.List.{take-set, drop-set-lt}
use Rattle.zone_spec.specs.Stores.{Store, put, after_stores}
use Rattle.prz_region.specs.CutRegion.{CutRegion, span, stored}
use Rattle.prz_region.proofs.Cuts.{span-stored}

-- ---- one span stored into

pub before_stored : (cut : CutRegion) (i : ℕ) (ss : List Store)
    → concat (take i (stored cut i ss).spans) ≡ concat (take i cut.spans)
before_stored cut i ss = ap concat (take-set cut.spans i _)

pub after_stored : (cut : CutRegion) (i : ℕ) (ss : List Store)
    → concat (drop (i + 1) (stored cut i ss).spans) ++ (stored cut i ss).rest
    ≡ concat (drop (i + 1) cut.spans) ++ cut.rest
after_stored cut i ss =
    ap (λ (xs : List (List ℕ)). concat xs ++ cut.rest) (drop-set-lt (i + 1) cut.spans i _ (omega arith))

-- the span after one store
pub one_stored : (cut : CutRegion) (i : ℕ) (s : Store) → i < length cut.spans
    → span (stored cut i (s ∷ [])) i ≡ put (span cut i) s.place s.bytes
unfolding after_stores
one_stored cut i s lt = span-stored cut i (s ∷ []) lt

-- ---- all spans, in three pieces

pieces : (xs : List (List ℕ)) (i : ℕ) → i < length xs
    → concat xs ≡ concat (take i xs) ++ get_or xs i [] ++ concat (drop (suc i) xs)
pieces [] i h = absurd (omega arith)
pieces (x ∷ xs) zero h = refl
pieces (x ∷ xs) (suc i) h =
    ap (λ ys. x ++ ys) (pieces xs i (omega arith)
    ∙ append_assoc (concat (take i xs)) (get_or xs i []) (concat (drop (suc i) xs)))
    ∙ sym (append_assoc x (concat (take i xs)) (get_or xs i [] ++ concat (drop (suc i) xs)))
    ∙ sym (append_assoc (x ++ concat (take i xs)) (get_or xs i []) (concat (drop (suc i) xs)))

pub joined : (cut : CutRegion) (i : ℕ) → i < length cut.spans
    → concat cut.spans ++ cut.rest
    ≡ concat (take i cut.spans) ++ span cut i ++ (concat (drop (i + 1) cut.spans) ++ cut.rest)
joined cut i h =
    let n : i + 1 ≡ suc i = omega arith in
    ap (λ ys. ys ++ cut.rest) (pieces cut.spans i h)
    ∙ append_assoc (concat (take i cut.spans) ++ span cut i) (concat (drop (suc i) cut.spans)) cut.rest
    ∙ ap (λ m. concat (take i cut.spans) ++ span cut i ++ (concat (drop m cut.spans) ++ cut.rest)) (sym n)
