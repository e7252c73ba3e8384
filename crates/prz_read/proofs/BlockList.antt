-- A block more behind those that were read
use Rattle.std.proofs.Common.{◌≡◌, ℕ, ◌+◌, ◌-◌, ◌*◌, ◌/◌, ◌%◌, ◌<◌, ◌≤◌, min, List, [], ◌++◌, length, take, drop}
use Rattle.std.proofs.Common.{slice_range, sym, ap, ap₂, ◌∙◌, subst, arith, mul_comm, Bool, true, Option, Some, map}
use Rattle.std.proofs.Common.{◌∷◌}
use Rattle.std.specs.List.{range_with_len, sum_by}
use Rattle.std.proofs.lemmas.List.{take-take}
use Rattle.std.proofs.Math.Nat.{mul-le-mul_left}
use Rattle.std.proofs.lemmas.Grind.{div_ceil_times}
use Rattle.list_laws.proofs.RoundingUp.{div_ceil_is, div_ceil_most}
use Rattle.list_laws.proofs.Ranges.{sum_by-range_more}
use Rattle.code_spec.specs.Code.{IsCodeword, nearest, nearest_if}
use Rattle.code_laws.proofs.Nearest.{distance_self}
use Rattle.zone_spec.specs.declared.Zone.{Zone}
use Rattle.zone_spec.specs.Zones.{IsValidZone}
use Rattle.zone_spec.specs.Parts.{AreBytes, Part, Block, part_bytes, part_word}
use Rattle.zone_spec.specs.PartReadings.{part_reading, reading_by}
use Rattle.ring_laws.proofs.PartsLaw.{block_some}
use Rattle.ring_laws.proofs.PartWords.{part_bytes-word, reading_near}
use Rattle.zone_spec.specs.declared.PartState.{PartState}
use Rattle.zone_spec.specs.PartStates.{part_state}
use Rattle.prz_read.specs.declared.reading.Front.{Front}
use Rattle.prz_read.specs.Reads.{bytes_read, corrected_below, bad_below, states_below}
use Rattle.prz_read.specs.Fronts.{ReadsTo}
use Rattle.prz_read.proofs.Fronts.{bytes_read-next, bytes_read-none}
use Rattle.prz_read.proofs.States.{block-next}

-- a part that stands as a codeword reads as it stands
pub codeword-nearest : (r : ℕ) (w : List ℕ) → IsCodeword r w → nearest r w ≡ Some w
unfolding nearest
codeword-nearest r w h = ap (λ (b : Bool). nearest_if b r w) h

pub codeword-reads : (z : Zone) (x : List ℕ) (p : Part) → IsCodeword z.parity (part_word z x p)
    → ((part_reading z x p).bytes ≡ part_bytes z x p) × (0 ≡ (part_reading z x p).corrected)
    × (0 ≡ (part_reading z x p).bad)
unfolding part_reading
codeword-reads z x p h =
    let w : List ℕ = part_word z x p in
    let e : nearest z.parity w ≡ Some w = codeword-nearest z.parity w h in (
      reading_near z x p w e ∙ part_bytes-word z x p,
      sym (ap (λ (o : Option (List ℕ)). (reading_by (part_bytes z x p) w o).corrected) e ∙ distance_self w),
      sym (ap (λ (o : Option (List ℕ)). (reading_by (part_bytes z x p) w o).bad) e),
    )

module _ (z : Zone) (x : List ℕ) (size b : ℕ) (valid : IsValidZone z) (long : length x ≡ z.size) (bytes : AreBytes x)
    (within : size ≤ z.cap) (block : z.block * b < size) where
  pub pushed : (old new : Front) (k m : ℕ) (s : PartState) → ReadsTo z x size b old
      → new.bytes.items ≡ old.bytes.items ++ take (min z.block (size - z.block * b)) (part_reading z x (Block b)).bytes
      → new.counts.corrected ≡ old.counts.corrected + k → k ≡ (part_reading z x (Block b)).corrected → k < 256
      → new.counts.bad ≡ old.counts.bad + m → m ≡ (part_reading z x (Block b)).bad → m ≤ 1
      → s ≡ part_state (part_reading z x (Block b)) → new.states.are_wanted ≡ old.states.are_wanted
      → (old.states.are_wanted ≡ true → new.states.kept.items ≡ old.states.kept.items ++ s ∷ [])
      → ReadsTo z x size (b + 1) new
  pushed old new k m s before items ec ek few eb em one es same kept = record {
    bytes = items ∙ ap (λ (l : List ℕ). l ++ take (min z.block (size - z.block * b)) (part_reading z x (Block b)).bytes)
        before.bytes ∙ sym (bytes_read-next z x b size valid long bytes within block).1;
    corrected = ec ∙ ap₂ (λ (n l : ℕ). n + l) before.corrected ek
        ∙ sym (sum_by-range_more (λ (j : ℕ). (part_reading z x (Block j)).corrected) b);
    bad = eb ∙ ap₂ (λ (n l : ℕ). n + l) before.bad em
        ∙ sym (sum_by-range_more (λ (j : ℕ). (part_reading z x (Block j)).bad) b);
    few = (let f = before.few in omega (arith, f, ec, few));
    some = (let most = before.some in omega (arith, most, eb, one));
    states = λ wanted.
        let asked : old.states.are_wanted ≡ true = sym same ∙ wanted in
        block-next z x b old.states.kept.items new.states.kept.items s (before.states asked) es (kept asked);
  }

  -- the bytes of a block as they stand, as far as they lie below size
  pub standing : (at : ℕ) → at ≡ 12 + z.block * b → IsCodeword z.parity (part_word z x (Block b))
      → slice_range x at (at + min z.block (size - z.block * b))
      ≡ take (min z.block (size - z.block * b)) (part_reading z x (Block b)).bytes
  unfolding part_bytes
  standing at e clean =
      let n : ℕ = min z.block (size - z.block * b) in
      let next : z.block * (b + 1) ≡ z.block * b + z.block = grind arith in
      let start : ℕ = 12 + z.block * b in
      let m : ℕ = start + (min (z.block * (b + 1)) z.cap - z.block * b) - start in
      ap (λ (a : ℕ). slice_range x a (a + n)) e
      ∙ ap (λ (k : ℕ). take k (drop start x)) (let f : start + n - start ≡ n = omega arith in f)
      ∙ sym (take-take n m (drop start x) (omega (arith, next, within)))
      ∙ ap (λ (l : List ℕ). take n l) (sym (codeword-reads z x (Block b) clean).0)

pub reads-none : (z : Zone) (x : List ℕ) (size : ℕ) (front : Front) → [] ≡ front.bytes.items
    → front.counts.corrected ≡ 0 → front.counts.bad ≡ 0 → front.states.kept.items ≡ [] → ReadsTo z x size 0 front
reads-none z x size front items c b s = record {
  bytes = sym items ∙ bytes_read-none z x (min (z.block * 0) size) (grind arith);
  corrected = c;
  bad = b;
  few = omega (arith, c);
  some = omega (arith, b);
  states = λ wanted. s;
}

-- ---- pairs
pub pair-room : (k size pair count : ℕ) → 0 < k → pair < count → k * (2 * count) ≤ size
    → (k * (2 * pair + 2) ≤ size) × (k * (2 * pair) < size) × (k * (2 * pair + 1) < size)
pair-room k size pair count some below room =
    let most : k * (2 * pair + 2) ≤ k * (2 * count) = mul-le-mul_left k
    (let l : 2 * pair + 2 ≤ 2 * count = omega arith in l) in
    let two : k * (2 * pair + 2) ≡ k * (2 * pair) + 2 * k = grind arith in
    let one : k * (2 * pair + 1) ≡ k * (2 * pair) + k = grind arith in
    (omega (arith, most, room), omega (arith, most, room, two, some), omega (arith, most, room, two, one, some))

pub next-pair : (z : Zone) (x : List ℕ) (size pair : ℕ) (front : Front) → ReadsTo z x size (2 * pair + 1 + 1) front
    → ReadsTo z x size (2 * (pair + 1)) front
next-pair z x size pair front h = subst (λ (n : ℕ). ReadsTo z x size n front)
    (let e : 2 * pair + 1 + 1 ≡ 2 * (pair + 1) = omega arith in e) h

pub pairs-below : (k size : ℕ) → 0 < k → k * (2 * (size / k / 2)) ≤ size
pairs-below k size some =
    let q : ℕ = size / k in
    let is : k * q ≤ size = omega (arith, some) in
    let most : k * (2 * (q / 2)) ≤ k * q = mul-le-mul_left k (let l : 2 * (q / 2) ≤ q = omega arith in l) in
    omega (arith, is, most)

-- ---- all blocks that begin below size
module _ (z : Zone) (x : List ℕ) (size n : ℕ) (front : Front) (valid : IsValidZone z) (reads : ReadsTo z x size n front)
    (last : n ≡ size / z.block + min 1 (size % z.block)) where
  whole : size ≤ z.block * n
  whole =
      let q : ℕ = size / z.block + min 1 (size % z.block) in
      let low : size ≤ q * z.block = (div_ceil_times size z.block (block_some z valid)).0 in
      let turned : z.block * q ≡ q * z.block = mul_comm z.block q in
      subst (λ (m : ℕ). size ≤ z.block * m) (sym last) (let le : size ≤ z.block * q = omega (arith, low, turned) in le)

  is-last : n ≡ (size + z.block - 1) / z.block
  is-last = last ∙ div_ceil_is size z.block (block_some z valid)

  most : n ≤ size
  most = subst (λ (m : ℕ). m ≤ size) (sym last) (div_ceil_most size z.block (block_some z valid))

  pub whole-bytes : front.bytes.items ≡ bytes_read z x size
  whole-bytes = reads.bytes ∙ ap (λ (m : ℕ). bytes_read z x m)
      (let enough = whole in let e : min (z.block * n) size ≡ size = omega (arith, enough) in e)

  pub whole-corrected : front.counts.corrected ≡ corrected_below z x size
  whole-corrected = reads.corrected ∙ ap (λ (m : ℕ). sum_by (λ (b : ℕ). (part_reading z x (Block b)).corrected)
      (range_with_len 0 m)) is-last

  pub whole-bad : front.counts.bad ≡ bad_below z x size
  whole-bad = reads.bad ∙ ap (λ (m : ℕ). sum_by (λ (b : ℕ). (part_reading z x (Block b)).bad) (range_with_len 0 m))
      is-last

  pub whole-states : front.states.are_wanted ≡ true → front.states.kept.items ≡ states_below z x size
  whole-states wanted = reads.states wanted
      ∙ ap (λ (m : ℕ). map (λ b. part_state (part_reading z x (Block b))) (range_with_len 0 m)) is-last

  pub whole-few : (front.counts.corrected ≤ 255 * size) × (front.counts.bad ≤ size)
  whole-few =
      let few = reads.few in
      let some = reads.some in
      let le = most in
      (omega (arith, few, le), omega (arith, some, le))

-- the blocks behind the pairs, up to the last one
pub loop-end : (size k low : ℕ) → 0 < k → low ≡ 2 * (size / k / 2) → low ≤ size / k + min 1 (size % k)
loop-end size k low some e =
    let q : ℕ = size / k in
    let half : 2 * (q / 2) ≤ q = omega arith in
    omega (arith, half, e)
