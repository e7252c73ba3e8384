-- What a run and an append leave of a zone's parts, at every parity
use Rattle.std.proofs.Common.{◌≡◌, ℕ, ◌+◌, ◌-◌, ◌*◌, ◌/◌, ◌<◌, ◌≤◌, ◌⊎◌, List, [], ◌∷◌, length, map, refl, sym, ◌∙◌}
use Rattle.std.proofs.Common.{subst, arith, inl, inr, mul_comm, add-mul, div-mul-le_self}
use Rattle.std.proofs.Math.Nat.{div-lt_iff_lt-mul, le-div_iff_mul-le, lt-div-mul-add}
use Rattle.std.specs.List.{range_with_len}
use Rattle.zone_spec.specs.declared.Zone.{Zone}
use Rattle.zone_spec.specs.Zones.{IsValidZone}
use Rattle.zone_spec.specs.Parts.{AreBytes, Header, Block}
use Rattle.zone_spec.specs.Stages.{Run, ParityOf, stage_stores}
use Rattle.zone_spec.specs.Stores.{put}
use Rattle.zone_spec.specs.Calls.{run_stages}
use Rattle.zone_spec.specs.Ring.{ReadsAsStands}
use Rattle.ring_laws.proofs.Images.{length-put, put-below, put-above, after_stores-byte_stores}
use Rattle.ring_laws.proofs.AppendLaw.{all_stages, stage_image}
use Rattle.ring_laws.proofs.PartsLaw.{block_some, HasParity, SamePart, SamePart-trans, SamePart-places, SameData}
use Rattle.ring_laws.proofs.PartsLaw.{SameData-refl, LeavesParts, parities_leave, put-bytes}

-- the blocks hold all data
pub cap_within : (z : Zone) → IsValidZone z → z.cap ≤ z.blocks * z.block
cap_within z valid =
    let k : 0 < z.block = block_some z valid in
    let d : ℕ = z.block + z.parity in
    let n : ℕ = (z.size - 12) - z.parity in
    let l : (n + d) - 1 < (((n + d) - 1) / d) * d + d = lt-div-mul-add (omega arith) in
    let b : z.blocks ≡ ((n + d) - 1) / d = valid.blocks in
    let m : z.blocks * d ≡ z.blocks * z.block + z.blocks * z.parity = grind arith in
    let c : (z.blocks + 1) * z.parity ≡ z.blocks * z.parity + z.parity = grind arith in
    let l2 : (n + d) - 1 < z.blocks * d + d = rw b l in
    omega (arith, valid.cap)

-- numbers of the blocks that a run meets
module _ (k place n b : ℕ) (some : 0 < k) where
  pub met_low : place < k * (b + 1) → place / k ≤ b
  met_low h = let l : place / k < b + 1 = (div-lt_iff_lt-mul some).1 (omega (arith, mul_comm k (b + 1))) in omega arith

  pub met_high : k * b < place + n → b < ((place + n + k) - 1) / k
  met_high h = let l : b + 1 ≤ ((place + n + k) - 1) / k =
      (le-div_iff_mul-le some).1 (omega (arith, mul_comm k b, add-mul b 1 k)) in omega arith

  unmet_low : k * (b + 1) ≤ place → b < place / k
  unmet_low h = let l : b + 1 ≤ place / k = (le-div_iff_mul-le some).1 (omega (arith, mul_comm k (b + 1))) in
      omega arith

  pub unmet_high : place + n ≤ k * b → ((place + n + k) - 1) / k ≤ b
  unmet_high h = let l : ((place + n + k) - 1) / k < b + 1 =
      (div-lt_iff_lt-mul some).1 (omega (arith, mul_comm k b, add-mul b 1 k)) in omega arith

pub met_order : (k place n : ℕ) → 0 < k → place / k ≤ ((place + n + k) - 1) / k
met_order k place n some = (le-div_iff_mul-le some).1 (omega (arith, div-mul-le_self place k))

-- what a run leaves
pub record RunLeaves (z : Zone) (place : ℕ) (xs x y : List ℕ) : Type 0 where
  pub data_same : SameData z y (put x (12 + place) xs)
  pub bytes : AreBytes y
  pub header : SamePart z y x Header
  pub unmet : (b : ℕ) → b < z.blocks → (z.block * (b + 1) ≤ place) ⊎ (place + length xs ≤ z.block * b)
      → SamePart z y x (Block b)
  pub met : (b : ℕ) → b < z.blocks → place < z.block * (b + 1) → z.block * b < place + length xs → 0 < length xs
      → ReadsAsStands z y (Block b)

-- bytes put into the data leave the parts that they do not meet
data_put-other : (z : Zone) (x : List ℕ) (place : ℕ) (xs : List ℕ) (b : ℕ) → place + length xs ≤ z.cap
    → (z.block * (b + 1) ≤ place) ⊎ (place + length xs ≤ z.block * b) → SamePart z (put x (12 + place) xs) x (Block b)
data_put-other z x place xs b fits side = SamePart-places z _ x (Block b) (length-put x (12 + place) xs)
    (λ i h k. elim side [
      | inl a ↦ put-below x (12 + place) i xs (omega arith)
      | inr c ↦ put-above x (12 + place) i xs (omega arith)
    ])
    (λ i h k. put-above x (12 + place) i xs (omega arith))

data_put-header : (z : Zone) (x : List ℕ) (place : ℕ) (xs : List ℕ) → place + length xs ≤ z.cap
    → SamePart z (put x (12 + place) xs) x Header
data_put-header z x place xs fits = SamePart-places z _ x Header (length-put x (12 + place) xs)
    (λ i h k. put-below x (12 + place) i xs (omega arith))
    (λ i h k. put-above x (12 + place) i xs (omega arith))

pub run_leaves : (z : Zone) → IsValidZone z → HasParity z.parity → (place : ℕ) (xs x : List ℕ)
    → place + length xs ≤ z.cap → length x ≡ z.size → AreBytes x → AreBytes xs
    → RunLeaves z place xs x (all_stages z (run_stages z place xs) x)
unfolding all_stages put stage_stores
run_leaves z valid parity place [] x fits len bytes new = record {
  data_same = SameData-refl z x;
  bytes = bytes;
  header = record { bytes = refl; word = refl };
  unmet = λ b h k. record { bytes = refl; word = refl };
  met = λ b h k l m. absurd (omega arith);
}
run_leaves z valid parity place (c ∷ cs) x fits len bytes new =
    let xs : List ℕ = c ∷ cs in
    let k : 0 < z.block = block_some z valid in
    let x1 : List ℕ = put x (12 + place) xs in
    let stage : stage_image z (Run place xs) x ≡ x1 = after_stores-byte_stores x (12 + place) xs in
    let a : ℕ = place / z.block in
    let e : ℕ = ((place + length xs + z.block) - 1) / z.block in
    let order : a ≤ e = met_order z.block place (length xs) k in
    let most : e ≤ z.blocks = unmet_high z.block place (length xs) z.blocks k
    (omega (arith, cap_within z valid, mul_comm z.blocks z.block)) in
    let rest : LeavesParts z x1 (all_stages z (map (λ j. ParityOf (Block j)) (range_with_len a (e - a))) x1) a
    (a + (e - a)) =
    parities_leave z valid parity (e - a) a x1 (omega arith) (length-put x (12 + place) xs ∙ len)
    (put-bytes x (12 + place) xs bytes new) in
    subst (λ y. RunLeaves z place xs x (all_stages z (map (λ j. ParityOf (Block j)) (range_with_len a (e - a))) y))
    (sym stage) (record {
      data_same = rest.data_same;
      bytes = rest.bytes;
      header = SamePart-trans rest.header (data_put-header z x place xs fits);
      unmet = λ b h side. SamePart-trans
          (rest.others b h (elim side [
            | inl l ↦ inl (unmet_low z.block place (length xs) b k l)
            | inr g ↦
                inr (let m : e ≤ b = unmet_high z.block place (length xs) b k g in omega arith)
          ]))
          (data_put-other z x place xs b fits side);
      met = λ b h l m some. rest.fresh b (met_low z.block place (length xs) b k l)
          (let n : b < e = met_high z.block place (length xs) b k m in omega arith);
    })
