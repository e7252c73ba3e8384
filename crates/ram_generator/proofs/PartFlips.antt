-- Flips of a part, and of a zone. The functions of `damage.rt` cite them.
use Rattle.std.proofs.Common.{◌≡◌, ℕ, ◌+◌, ◌-◌, ◌*◌, ◌/◌, ◌%◌, ◌^◌, ◌<◌, ◌≤◌, inl, inr, min, List, [], ◌∷◌, map, refl}
use Rattle.std.proofs.Common.{sym, ◌∙◌, arith}
use Rattle.std.specs.List.{range_with_len}
use Rattle.zone_spec.specs.declared.Zone.{Zone}
use Rattle.zone_spec.specs.Zones.{IsValidZone}
use Rattle.zone_spec.specs.Parts.{Part, Header, Block, part_at, part_len}
use Rattle.script_spec.specs.Generated.{draw, draw_over, drawn_flip, drawn_flips, drawn_damage}
use Rattle.ram_generator.proofs.Over.{over_more, range_next, range_end}
use Rattle.ram_generator.specs.Damage.{blocks_of}

pub part_drawn : (most : ℕ) (z : Zone) (part : Part) (x m len f y p w at : ℕ) (old : List (ℕ × ℕ))
    (all : List (ℕ × ℕ) × ℕ) → at ≡ z.at + part_at z part → len ≡ part_len z part → m ≡ min most len
    → (f, y) ≡ draw (m + 1) x → (p, w) ≡ draw (len - f + 1) y
    → all ≡ draw_over drawn_flip old (range_with_len (at + p) f) w → all ≡ drawn_flips most z old part x
unfolding drawn_flips
part_drawn most z part x m len f y p w at old all ea el em e1 e2 e3 =
    let first : draw (min most (part_len z part) + 1) x ≡ (f, y) = rw (em, el) at (sym e1) in
    let second : draw (part_len z part - f + 1) y ≡ (p, w) = rw el at (sym e2) in
    e3 ∙ rw (first, second, ea) refl

-- ---- the parts of a zone

block_small : (z : Zone) → IsValidZone z → z.block ≤ 128
block_small z valid = elim valid.block [
  | inl e ↦ (rw e (omega arith))
  | inr o ↦ (elim o [
    | inl e ↦ (rw e (omega arith))
    | inr e ↦ (rw e (omega arith))
  ])
]

mul_suc_right : (k b : ℕ) → k * (b + 1) ≡ k * b + k
mul_suc_right k b = grind arith

pub block_begins : (z : Zone) (b : ℕ) → IsValidZone z → b < (z.cap + z.block - 1) / z.block → z.block * b < z.cap
block_begins z b valid lt = elim valid.block [
  | inl e ↦ (let l : b < (z.cap + 32 - 1) / 32 = rw e at lt in rw e (omega (arith, l)))
  | inr o ↦ (elim o [
    | inl e ↦ (let l : b < (z.cap + 64 - 1) / 64 = rw e at lt in rw e (omega (arith, l)))
    | inr e ↦ (let l : b < (z.cap + 128 - 1) / 128 = rw e at lt in rw e (omega (arith, l)))
  ])
]

-- the blocks from this one on, of so many
abbrev pub blocks_left : ℕ → ℕ → List Part
blocks_left b n = map (λ b. Block b) (range_with_len b (n - b))

blocks_are : (z : Zone) (n : ℕ) → IsValidZone z → n ≡ z.cap / z.block + min 1 (z.cap % z.block)
    → n ≡ (z.cap + z.block - 1) / z.block
blocks_are z n valid same = elim valid.block [
  | inl e ↦ (let l : n ≡ z.cap / 32 + min 1 (z.cap % 32) = rw e at same in rw e (omega (arith, l)))
  | inr o ↦ (elim o [
    | inl e ↦ (let l : n ≡ z.cap / 64 + min 1 (z.cap % 64) = rw e at same in rw e (omega (arith, l)))
    | inr e ↦ (let l : n ≡ z.cap / 128 + min 1 (z.cap % 128) = rw e at same in rw e (omega (arith, l)))
  ])
]

pub blocks_start : (most : ℕ) (z : Zone) (n x : ℕ) (old : List (ℕ × ℕ)) → IsValidZone z
    → n ≡ z.cap / z.block + min 1 (z.cap % z.block)
    → draw_over (drawn_flips most z) old (blocks_left 0 n) x ≡ draw_over (drawn_flips most z) old (blocks_of z) x
blocks_start most z n x old valid same =
    let e = blocks_are z n valid same in
    let k : n - 0 ≡ (z.cap + z.block - 1) / z.block = omega (arith, e) in
    rw k refl

pub block_at : (z : Zone) (b n : ℕ) → IsValidZone z → z.at + z.size < 2 ^ 32
    → n ≡ z.cap / z.block + min 1 (z.cap % z.block) → b < n
    → (z.block * b < z.cap) × (z.block * (b + 1) ≡ z.block * b + z.block) × (z.block ≤ 128) × (z.cap + 12 ≤ z.size)
block_at z b n valid within same lt =
    let begins = block_begins z b valid (let e = blocks_are z n valid same in omega (arith, e, lt)) in
    (begins, mul_suc_right z.block b, block_small z valid, omega (arith, valid.cap))

pub block_next : (b n : ℕ) → b < n → blocks_left b n ≡ Block b ∷ blocks_left (b + 1) n
block_next b n lt = rw (range_next b n lt) refl

pub blocks_end : (b n : ℕ) → b ≡ n → blocks_left b n ≡ []
blocks_end b n same = rw (range_end b n b same) refl

-- the header and then the blocks
pub zone_drawn : (z : Zone) (x y : ℕ) (old now : List (ℕ × ℕ)) (all : List (ℕ × ℕ) × ℕ)
    → (now, y) ≡ drawn_flips (z.parity / 2) z old Header x
    → all ≡ draw_over (drawn_flips (z.parity / 2) z) now (blocks_of z) y → all ≡ drawn_damage old z x
unfolding drawn_damage
zone_drawn z x y old now all e1 e2 = e2 ∙ over_more (drawn_flips (z.parity / 2) z) old now Header
    (Header ∷ blocks_of z) (blocks_of z) x y _ refl e1 refl
