-- The bytes of a block, and those that data places read
use Rattle.std.proofs.Common.{◌≡◌, ℕ, ◌+◌, ◌-◌, ◌*◌, ◌/◌, ◌%◌, ◌<◌, ◌≤◌, min, List, [], ◌++◌, length, take, drop, map}
use Rattle.std.proofs.Common.{get_or, slice_range, sym, ap, ◌∙◌, arith, mul_comm, get_or-drop, length-drop}
use Rattle.std.specs.Prelude.{slice_index}
use Rattle.std.specs.List.{range_with_len}
use Rattle.std.proofs.lemmas.List.{map-append, drop-map, take-map}
use Rattle.std.proofs.lemmas.List.FromFn.{length-map-range_with_len}
use Rattle.std.proofs.Math.Nat.{mul-le-mul_left}
use Rattle.std.proofs.lemmas.Nat.{div-mul-add, mod-mul-add}
use Rattle.list_laws.proofs.Slices.{length-slice_range}
use Rattle.list_laws.proofs.Ranges.{range_with_len-add, map-range_from_places}
use Rattle.zone_spec.specs.declared.Zone.{Zone}
use Rattle.zone_spec.specs.Zones.{IsValidZone}
use Rattle.zone_spec.specs.Parts.{AreBytes, Header, Block, part_bytes}
use Rattle.zone_spec.specs.PartReadings.{part_reading}
use Rattle.zone_spec.specs.Reading.{byte_read}
use Rattle.ring_laws.proofs.PartsLaw.{block_some}
use Rattle.ring_laws.proofs.BootLaw.{length-reading}
use Rattle.zone_boot.specs.Reads.{bytes_at}
use Rattle.zone_boot.proofs.Rows.{range-drop, range-take}

-- a block has block bytes, the last one those that are left
pub block-length : (z : Zone) (x : List ℕ) (b : ℕ) → IsValidZone z → length x ≡ z.size → z.block * b < z.cap
    → length (part_bytes z x (Block b)) ≡ min (z.block * (b + 1)) z.cap - z.block * b
unfolding part_bytes
block-length z x b valid size within = length-slice_range x (12 + z.block * b)
    (min (z.block * (b + 1)) z.cap - z.block * b)
    (let c = valid.cap in omega (arith, c))

pub header-length : (z : Zone) (x : List ℕ) → IsValidZone z → length x ≡ z.size → length (part_bytes z x Header) ≡ 12
unfolding part_bytes
header-length z x valid size = length-slice_range x 0 12 (let c = valid.at_least in omega (arith, c))

block-byte : (z : Zone) (x : List ℕ) (b j : ℕ) → j < z.block
    → byte_read z x (z.block * b + j) ≡ get_or (part_reading z x (Block b)).bytes j 0
block-byte z x b j h =
    ap (λ (p : ℕ). byte_read z x p) (ap (λ (n : ℕ). n + j) (mul_comm z.block b))
    ∙ ap (λ (c : ℕ). slice_index (part_reading z x (Block c)).bytes ((b * z.block + j) % z.block))
    (div-mul-add b z.block j h)
    ∙ ap (λ (i : ℕ). get_or (part_reading z x (Block b)).bytes i 0) (mod-mul-add b z.block j h)

-- ---- bytes at places
module _ (z : Zone) (x : List ℕ) where
  pub bytes_at-length : (p n : ℕ) → length (bytes_at z x p n) ≡ n
  unfolding bytes_at
  bytes_at-length p n = length-map-range_with_len (λ q. byte_read z x q) p n

  pub bytes_at-none : (p n : ℕ) → n ≡ 0 → bytes_at z x p n ≡ []
  unfolding bytes_at
  bytes_at-none p n e = ap (λ (l : ℕ). map (λ q. byte_read z x q) (range_with_len p l)) e

  pub bytes_at-append : (p n k : ℕ) → bytes_at z x p n ++ bytes_at z x (p + n) k ≡ bytes_at z x p (n + k)
  unfolding bytes_at
  bytes_at-append p n k =
      sym (ap (λ (ps : List ℕ). map (λ q. byte_read z x q) ps) (range_with_len-add p n k)
      ∙ map-append (λ q. byte_read z x q) (range_with_len p n) (range_with_len (p + n) k))

  pub bytes_at-drop : (k p n : ℕ) → drop k (bytes_at z x p n) ≡ bytes_at z x (p + k) (n - k)
  unfolding bytes_at
  bytes_at-drop k p n = drop-map (λ q. byte_read z x q) k (range_with_len p n)
      ∙ ap (λ (ps : List ℕ). map (λ q. byte_read z x q) ps) (range-drop k p n)

  pub bytes_at-take : (k p n : ℕ) → take k (bytes_at z x p n) ≡ bytes_at z x p (min k n)
  unfolding bytes_at
  bytes_at-take k p n = take-map (λ q. byte_read z x q) k (range_with_len p n)
      ∙ ap (λ (ps : List ℕ). map (λ q. byte_read z x q) ps) (range-take k p n)

-- what lies from a place on in the block that holds it
module _ (z : Zone) (x : List ℕ) (valid : IsValidZone z) (size : length x ≡ z.size) (bytes : AreBytes x) (place : ℕ)
    (within : place < z.cap) (out : List ℕ) (reads : out ≡ (part_reading z x (Block (place / z.block))).bytes) where
  pub piece-long : (place % z.block < length out) × (length out ≤ 128) × (length out ≤ z.block)
  piece-long =
      let some = block_some z valid in
      let b : ℕ = place / z.block in
      let is : z.block * b + place % z.block ≡ place = omega (arith, some) in
      let low : place % z.block < z.block = omega (arith, some) in
      let next : z.block * (b + 1) ≡ z.block * b + z.block = grind arith in
      let long : length out ≡ min (z.block * (b + 1)) z.cap - z.block * b =
      ap length reads ∙ (length-reading z x (Block b) bytes).0 ∙ block-length z x b valid size
      (omega (arith, is, within)) in
      let most : z.block ≤ 128 = (let v = valid.block in grind (arith, v)) in
      (omega (arith, long, is, low, next, within), omega (arith, long, next, most), omega (arith, long, next))

  pub piece-is : (n : ℕ) → place % z.block + n ≤ length out
      → bytes_at z x place n ≡ take n (drop (place % z.block) out)
  unfolding bytes_at
  piece-is n fits =
      let some = block_some z valid in
      let b : ℕ = place / z.block in
      let w : ℕ = place % z.block in
      let is : z.block * b + w ≡ place = omega (arith, some) in
      let most = piece-long.2 in
      map-range_from_places (λ q. byte_read z x q) place n (drop w out) (omega (arith, length-drop w out, fits))
      (λ j h. ap (λ (q : ℕ). byte_read z x q) (let e : place + j ≡ z.block * b + (w + j) = omega (arith, is) in e)
      ∙ block-byte z x b (w + j) (omega (arith, most, fits, h))
      ∙ sym (ap (λ (l : List ℕ). get_or l (w + j) 0) reads) ∙ sym (get_or-drop w out j 0))

-- a block's bytes where they stand, by those that it reads
pub block-part : (z : Zone) (x : List ℕ) (b : ℕ) (out : List ℕ) → IsValidZone z → length x ≡ z.size → AreBytes x
    → z.block * b < z.cap → out ≡ (part_reading z x (Block b)).bytes
    → (length out ≡ length (part_bytes z x (Block b))) × (length out ≤ 128) × (length out ≤ z.block)
    × (12 + z.block * b + length out ≤ z.size)
    × (slice_range x (12 + z.block * b) (12 + z.block * b + length out) ≡ part_bytes z x (Block b))
unfolding part_bytes
block-part z x b out valid size bytes within reads =
    let next : z.block * (b + 1) ≡ z.block * b + z.block = grind arith in
    let same : length out ≡ length (part_bytes z x (Block b)) =
    ap length reads ∙ (length-reading z x (Block b) bytes).0 in
    let long : length out ≡ min (z.block * (b + 1)) z.cap - z.block * b =
    same ∙ block-length z x b valid size within in
    let most : z.block ≤ 128 = (let v = valid.block in grind (arith, v)) in (
      same,
      omega (arith, long, next, most),
      omega (arith, long, next),
      (let c = valid.cap in omega (arith, long, c, within)),
      ap (λ (n : ℕ). slice_range x (12 + z.block * b) (12 + z.block * b + n)) long,
    )

-- a block below a count of blocks that hold data
pub block-inside : (k b count cap : ℕ) → k * count < cap + k → b < count → k * b < cap
block-inside k b count cap h less =
    let most : k * (b + 1) ≤ k * count = mul-le-mul_left k (let l : b + 1 ≤ count = omega arith in l) in
    let next : k * (b + 1) ≡ k * b + k = grind arith in
    omega (arith, most, next, h)

-- the same, where they stand
pub block-facts : (z : Zone) (x : List ℕ) (b n : ℕ) (out stands : List ℕ) → IsValidZone z → length x ≡ z.size
    → AreBytes x → z.block * n < z.cap + z.block → b < n → out ≡ (part_reading z x (Block b)).bytes
    → stands ≡ slice_range x (12 + z.block * b) (12 + z.block * b + length out)
    → (length out ≡ length stands) × (length out ≤ 128) × (length out ≤ z.block)
    × (12 + z.block * b + length out ≤ z.size) × (stands ≡ part_bytes z x (Block b))
    × (length out ≡ length (part_bytes z x (Block b)))
block-facts z x b n out stands valid size bytes count less reads e =
    let p = block-part z x b out valid size bytes (block-inside z.block b n z.cap count less) reads in
    (p.0 ∙ sym (ap length (e ∙ p.4)), p.1, p.2, p.3, e ∙ p.4, p.0)

pub header-stands : (z : Zone) (x : List ℕ) (s : List ℕ) → s ≡ slice_range x 0 (0 + 12) → s ≡ part_bytes z x Header
unfolding part_bytes
header-stands z x s e = e

-- the header's bytes where they stand, by those that it reads
pub header-facts : (z : Zone) (x out stands : List ℕ) → IsValidZone z → length x ≡ z.size → AreBytes x
    → out ≡ (part_reading z x Header).bytes → stands ≡ slice_range x 0 (0 + 12)
    → (length out ≡ length stands) × (length stands ≡ 12) × (stands ≡ part_bytes z x Header)
    × (length (part_bytes z x Header) ≡ 12)
header-facts z x out stands valid size bytes reads e =
    let is : stands ≡ part_bytes z x Header = header-stands z x stands e in
    let long = header-length z x valid size in
    (ap length reads ∙ (length-reading z x Header bytes).0 ∙ sym (ap length is), ap length is ∙ long, is, long)
