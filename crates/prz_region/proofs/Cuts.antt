-- What a caller needs of several stores in a row
use Rattle.std.proofs.Common.{◌≡◌, ℕ, zero, suc, ◌+◌, ◌<◌, List, [], ◌∷◌, ◌++◌, append_assoc, append-nil, get_or}
use Rattle.std.proofs.Common.{get_or-set_same, get_or-set_other, length, length-set, sym, ap, ap₂, set, refl, ◌∙◌}
use Rattle.std.proofs.lemmas.List.{map-append, set-get_or}
use lib.Seq.{set-set}
use Rattle.zone_spec.specs.Stores.{Store, put, after_stores}
use Rattle.prz_region.specs.Made.{Write, in_span}
use Rattle.prz_region.specs.CutRegion.{CutRegion, span, stored}

-- stores one after the other
after_stores-append : (xs : List ℕ) (ss ts : List Store)
    → after_stores xs (ss ++ ts) ≡ after_stores (after_stores xs ss) ts
unfolding after_stores
after_stores-append xs [] ts = refl
after_stores-append xs (s ∷ ss) ts = after_stores-append (put xs s.place s.bytes) ss ts

pub span-stored : (c : CutRegion) (i : ℕ) (ss : List Store) → i < length c.spans
    → span (stored c i ss) i ≡ after_stores (span c i) ss
span-stored c i ss lt = get_or-set_same c.spans i _ [] lt

-- stores in one span, and then others there
pub stored-again : (c : CutRegion) (i : ℕ) (ss ts : List Store) → i < length c.spans
    → stored (stored c i ss) i ts ≡ stored c i (ss ++ ts)
stored-again c i ss ts lt =
    ap₂ (λ (spans : List (List ℕ)) (made : List (Write ℕ)). record { spans = spans; rest = c.rest; made = made })
    (ap (λ (xs : List ℕ). set (set c.spans i (after_stores (span c i) ss)) i (after_stores xs ts)) (span-stored c i ss lt)
    ∙ set-set c.spans i _ _
    ∙ ap (λ (xs : List ℕ). set c.spans i xs) (sym (after_stores-append (span c i) ss ts)))
    (append_assoc c.made (in_span i ss) (in_span i ts)
    ∙ ap (λ (xs : List (Write ℕ)). c.made ++ xs) (sym (map-append (λ (s : Store). record { span = i; place = s.place; values = s.bytes }) ss ts)))

-- no store leaves the region as it is
pub stored-none : (c : CutRegion) (i : ℕ) → stored c i [] ≡ c
unfolding after_stores
stored-none c i =
    ap₂ (λ (spans : List (List ℕ)) (made : List (Write ℕ)). record { spans = spans; rest = c.rest; made = made })
    (set-get_or c.spans i []) (append-nil c.made)

pub span-other : (c : CutRegion) (i j : ℕ) (ss : List Store) → (j ≡ i → ⊥) → span (stored c i ss) j ≡ span c j
span-other c i j ss ne = get_or-set_other c.spans i j _ [] ne

-- a store keeps the number of bytes
pub put-length : (xs : List ℕ) (at : ℕ) (bs : List ℕ) → length (put xs at bs) ≡ length xs
unfolding put
put-length xs at [] = refl
put-length xs at (b ∷ bs) = put-length (set xs at b) (at + 1) bs ∙ length-set xs at b

-- no store changes the length of a span
stores-length : (xs : List ℕ) (ss : List Store) → length (after_stores xs ss) ≡ length xs
unfolding after_stores
stores-length xs [] = refl
stores-length xs (s ∷ ss) = stores-length (put xs s.place s.bytes) ss ∙ put-length xs s.place s.bytes

same-length : (xss : List (List ℕ)) (i j : ℕ) (ys : List ℕ) → length ys ≡ length (get_or xss i [])
    → length (get_or (set xss i ys) j []) ≡ length (get_or xss j [])
same-length [] i j ys e = refl
same-length (xs ∷ xss) zero zero ys e = e
same-length (xs ∷ xss) zero (suc j) ys e = refl
same-length (xs ∷ xss) (suc i) zero ys e = refl
same-length (xs ∷ xss) (suc i) (suc j) ys e = same-length xss i j ys e

pub span-length : (c : CutRegion) (i j : ℕ) (ss : List Store) → length (span (stored c i ss) j) ≡ length (span c j)
span-length c i j ss = same-length c.spans i j _ (stores-length (span c i) ss)

pub spans-length : (c : CutRegion) (i : ℕ) (ss : List Store) → length (stored c i ss).spans ≡ length c.spans
spans-length c i ss = length-set c.spans i _

pub ruleset stores = (span-stored, span-other, span-length, spans-length)
