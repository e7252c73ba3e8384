-- The stores that a phase makes next
use Rattle.std.proofs.Common.{◌≡◌, ℕ, zero, suc, ◌+◌, ◌-◌, ◌*◌, ◌/◌, ◌<◌, ◌≤◌, ◌⊎◌, List, [], ◌∷◌, take, drop, refl, ap}
use Rattle.std.proofs.Common.{◌∙◌, subst, arith, mul-le-mul_right}
use Rattle.std.proofs.Math.Nat.{div-lt_iff_lt-mul, le-div_iff_mul-le}
use Rattle.zone_spec.specs.Zones.{IsValidZone}
use Rattle.zone_spec.specs.declared.Zone.{Zone}
use Rattle.ring_laws.proofs.RunLaw.{cap_within}
use Rattle.zone_spec.specs.Stores.{byte_stores}
use Rattle.store_steps.specs.declared.place.Phase.{Phase}
use Rattle.store_steps.specs.Flying.{Flying}
use Rattle.store_steps.specs.Phases.{phase_len}

pub block_some : (k : ℕ) → (k ≡ 32) ⊎ (k ≡ 64) ⊎ (k ≡ 128) → (0 < k) × (k ≤ 128)
block_some k h = (grind (arith, h), grind (arith, h))

drop-byte_stores : (k place : ℕ) (xs : List ℕ) → drop k (byte_stores place xs) ≡ byte_stores (place + k) (drop k xs)
unfolding byte_stores
drop-byte_stores zero place xs = let e : place ≡ place + 0 = omega arith in ap (λ p. byte_stores p xs) e
drop-byte_stores (suc k) place [] = refl
drop-byte_stores (suc k) place (x ∷ xs) =
    drop-byte_stores k (place + 1) xs
    ∙ (let e : (place + 1) + k ≡ place + suc k = omega arith in ap (λ p. byte_stores p (drop k xs)) e)

take-byte_stores : (n place : ℕ) (xs : List ℕ) → take n (byte_stores place xs) ≡ byte_stores place (take n xs)
unfolding byte_stores
take-byte_stores zero place xs = refl
take-byte_stores (suc n) place [] = refl
take-byte_stores (suc n) place (x ∷ xs) =
    ap (λ ss. record { place = place; bytes = x ∷ [] } ∷ ss) (take-byte_stores n (place + 1) xs)

-- the next stores of a run are those of its next bytes
pub part-byte_stores : (n k place : ℕ) (xs : List ℕ)
    → take n (drop k (byte_stores place xs)) ≡ byte_stores (place + k) (take n (drop k xs))
part-byte_stores n k place xs = ap (take n) (drop-byte_stores k place xs) ∙ take-byte_stores n (place + k) (drop k xs)

pub ready_in : (f : Flying) (n : ℕ) (p : Phase) → f.place.phase ≡ p
    → f.place.number + n ≤ phase_len f f.place.phase → f.place.number + n ≤ phase_len f p
ready_in f n p e h = subst (λ q. f.place.number + n ≤ phase_len f q) e h

-- a block that a run ends behind is one of the zone's
pub block_in : (z : Zone) (n b : ℕ) → IsValidZone z → n ≤ z.cap → b < ((n + z.block) - 1) / z.block → b < z.blocks
block_in z n b valid fits h =
    let some : 0 < z.block = (block_some z.block valid.block).0 in
    let m : (z.blocks + 1) * z.block ≡ z.blocks * z.block + z.block = grind arith in
    let l : ((n + z.block) - 1) / z.block < z.blocks + 1 =
    (div-lt_iff_lt-mul some).1 (omega (arith, cap_within z valid)) in
    omega arith

-- and no run ends behind more blocks than the zone has
pub end_in : (z : Zone) (n : ℕ) → IsValidZone z → n ≤ z.cap → ((n + z.block) - 1) / z.block ≤ z.blocks
end_in z n valid fits =
    let some : 0 < z.block = (block_some z.block valid.block).0 in
    let m : (z.blocks + 1) * z.block ≡ z.blocks * z.block + z.block = grind arith in
    let l : ((n + z.block) - 1) / z.block < z.blocks + 1 =
    (div-lt_iff_lt-mul some).1 (omega (arith, cap_within z valid)) in
    omega arith

-- and it begins below the capacity
pub block_begins : (z : Zone) (n b : ℕ) → IsValidZone z → n ≤ z.cap → b < ((n + z.block) - 1) / z.block
    → z.block * b < z.cap
block_begins z n b valid fits h =
    let some : 0 < z.block = (block_some z.block valid.block).0 in
    let l : (b + 1) * z.block ≤ (n + z.block) - 1 = (le-div_iff_mul-le some).0 (omega arith) in
    let m : (b + 1) * z.block ≡ z.block * b + z.block = grind arith in
    omega arith

-- the parity of the zone's parts ends within the zone
pub parity_in : (z : Zone) (b : ℕ) → IsValidZone z → b ≤ z.blocks → 12 + z.cap + b * z.parity + z.parity ≤ z.size
parity_in z b valid h =
    let l : b * z.parity ≤ z.blocks * z.parity = mul-le-mul_right z.parity h in
    let c : (z.blocks + 1) * z.parity ≡ z.blocks * z.parity + z.parity = grind arith in
    omega (arith, valid.cap)
