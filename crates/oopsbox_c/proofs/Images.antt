-- A zone's bytes, put into a span of zeros, are those bytes.
use Rattle.std.proofs.Common.{◌≡◌, ℕ, zero, suc, ◌+◌, ◌-◌, ◌≤◌, List, [], ◌++◌, length, drop, replicate, refl, ap, ◌∙◌}
use Rattle.std.proofs.Common.{arith, zero-add, length-take, length-drop}
use Rattle.std.proofs.lemmas.List.{append-nil, length-replicate}
use Rattle.zone_spec.specs.declared.Zone.{Zone}
use Rattle.zone_spec.specs.Stores.{put}
use Rattle.prz_region.proofs.Stores.{put-parts}
use Rattle.machine_spec.specs.Zones.{zone_bytes}

filled : (n : ℕ) (bytes : List ℕ) → length bytes ≡ n → put (replicate n 0) 0 bytes ≡ bytes
filled n bytes l =
    put-parts (replicate n 0) 0 bytes (omega (arith, length-replicate {A = ℕ} n 0))
    ∙ ap (λ (k : ℕ). bytes ++ drop k (replicate n 0)) (zero-add (length bytes) ∙ l)
    ∙ ap (λ (xs : List ℕ). bytes ++ xs) (none_left n) ∙ append-nil bytes
  where
    none_left : (n : ℕ) → drop n (replicate {A = ℕ} n 0) ≡ []
    none_left zero = refl
    none_left (suc n) = none_left n

pub length-zone_bytes : (z : Zone) (image : List ℕ) → z.at + z.size ≤ length image
    → length (zone_bytes z image) ≡ z.size
length-zone_bytes z image l =
    omega (arith, length-take (z.at + z.size - z.at) (drop z.at image), length-drop z.at image)

-- the span that is read
pub holds : (z : Zone) (image probe filled_probe span : List ℕ) → z.at + z.size ≤ length image
    → probe ≡ replicate z.size 0 → filled_probe ≡ put probe 0 (zone_bytes z image) → span ≡ filled_probe
    → span ≡ zone_bytes z image
holds z image probe filled_probe span l p f s =
    s ∙ f ∙ ap (λ (xs : List ℕ). put xs 0 (zone_bytes z image)) p
    ∙ filled z.size (zone_bytes z image) (length-zone_bytes z image l)
