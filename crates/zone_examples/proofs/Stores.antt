-- A call's stores with parities that are given
use Rattle.std.specs.Prelude.{IsTrue}
use Rattle.std.proofs.Common.{◌≡◌, ℕ, List, [], ◌∷◌, ◌++◌, ◌&&◌, Bool, true, false, refl, ap, ◌∙◌}
use Rattle.std.proofs.lemmas.Bool.{and_parts}
use Rattle.zone_spec.specs.declared.Zone.{Zone}
use Rattle.zone_spec.specs.Parts.{part_bytes, part_parity_at}
use Rattle.zone_spec.specs.Stores.{Store, byte_stores, after_stores}
use Rattle.zone_spec.specs.Stages.{Stage, ParityOf, stage_stores, stores_in_turn}
use Rattle.zone_examples.proofs.Given.{is_parity, given_parity}

-- the stores of the stages, with the next given parity at each parity stage
abbrev pub with_given : Zone → List Stage → List (List ℕ) → List ℕ → List Store
with_given z [] ps image = []
with_given z (ParityOf part ∷ gs) [] image = []
with_given z (ParityOf part ∷ gs) (p ∷ ps) image =
    byte_stores (part_parity_at z part) p ++ with_given z gs ps
    (after_stores image (byte_stores (part_parity_at z part) p))
with_given z (g ∷ gs) ps image = stage_stores z g image ++ with_given z gs ps
    (after_stores image (stage_stores z g image))

-- whether each of them is the parity of its part as it then stands
abbrev pub are_given : Zone → List Stage → List (List ℕ) → List ℕ → Bool
are_given z [] ps image = true
are_given z (ParityOf part ∷ gs) [] image = false
are_given z (ParityOf part ∷ gs) (p ∷ ps) image =
    is_parity z.parity (part_bytes z image part) p && are_given z gs ps
    (after_stores image (byte_stores (part_parity_at z part) p))
are_given z (g ∷ gs) ps image = are_given z gs ps (after_stores image (stage_stores z g image))

pub given_stores : (z : Zone) (gs : List Stage) (ps : List (List ℕ)) (image : List ℕ)
    → IsTrue (are_given z gs ps image) → stores_in_turn z gs image ≡ with_given z gs ps image
unfolding stores_in_turn stage_stores
given_stores z [] ps image h = refl
given_stores z (ParityOf part ∷ gs) [] image h = cc
given_stores z (ParityOf part ∷ gs) (p ∷ ps) image h =
    let t : IsTrue (is_parity z.parity (part_bytes z image part) p)
    × IsTrue (are_given z gs ps (after_stores image (byte_stores (part_parity_at z part) p))) =
    and_parts (is_parity z.parity (part_bytes z image part) p) _ h in
    ap (λ q. byte_stores (part_parity_at z part) q ++ stores_in_turn z gs
    (after_stores image (byte_stores (part_parity_at z part) q)))
    (given_parity z.parity (part_bytes z image part) p t.0)
    ∙ ap (λ ss. byte_stores (part_parity_at z part) p ++ ss)
    (given_stores z gs ps (after_stores image (byte_stores (part_parity_at z part) p)) t.1)
given_stores z (g ∷ gs) ps image h = ap (λ ss. stage_stores z g image ++ ss)
    (given_stores z gs ps (after_stores image (stage_stores z g image)) h)
