-- A block as the log and the tail after it have it, and pieces of lists
use Rattle.std.proofs.Common.{◌≡◌, ℕ, ◌+◌, ◌-◌, ◌*◌, ◌/◌, ◌<◌, ◌≤◌, min, List, ◌++◌, length, take, drop, inl, inr, refl}
use Rattle.std.proofs.Common.{sym, ap, ap₂, ◌∙◌, arith, take_all, length-take}
use Rattle.std.proofs.lemmas.Bool.{cases_lt}
use Rattle.std.proofs.Math.Nat.{mul-le-mul_left}
use Rattle.list_laws.proofs.Elements.{take-append}
use Rattle.list_laws.proofs.Ranges.{map-range_from_places}
use Rattle.zone_spec.specs.declared.Zone.{Zone}
use Rattle.zone_spec.specs.declared.Words.{Words}
use Rattle.zone_spec.specs.Zones.{IsValidZone}
use Rattle.zone_spec.specs.Parts.{AreBytes, Block}
use Rattle.zone_spec.specs.PartReadings.{part_reading}
use Rattle.zone_spec.specs.Reading.{byte_read, log_read, IsRing}
use Rattle.zone_spec.specs.Stores.{byte_stores}
use Rattle.ring_laws.proofs.PartsLaw.{block_some}
use Rattle.ring_laws.proofs.BootLaw.{length-reading}
use Rattle.ring_laws.proofs.States.{below_count}
use Rattle.zone_boot.specs.Reads.{bytes_at}
use Rattle.zone_boot.proofs.Rows.{drop-append}
use Rattle.zone_boot.proofs.PartRuns.{byte-take}
use Rattle.zone_boot.proofs.Blocks.{bytes_at-drop, bytes_at-take}
use Rattle.prz_read.specs.Reads.{bytes_read, read_end}
use Rattle.prz_read.specs.Sources.{HasBlock}
use Rattle.prz_read.proofs.Images.{block-length}
use Rattle.prz_read.proofs.Fronts.{block-byte}
use Rattle.prz_read.proofs.Tails.{log-unturned}

-- ---- pieces
-- what lies from a place on in two lists, end to end
pub cut-append : (n at m : ℕ) (xs ys out : List ℕ) → out ≡ take n (drop at xs) → m ≡ at - length xs
    → out ++ take (n - length out) (drop m ys) ≡ take n (drop at (xs ++ ys))
cut-append n at m xs ys out e em =
    let a : List ℕ = drop at xs in
    let long : length out ≡ min n (length a) = ap length e ∙ length-take n a in
    ap₂ (λ (l : List ℕ) (k : ℕ). l ++ take (n - length out) (drop k ys)) e em
    ∙ cases
    ∙ sym (ap (λ (l : List ℕ). take n l) (drop-append at xs ys) ∙ take-append n a (drop (at - length xs) ys))
  where
    cases : take n (drop at xs) ++ take (n - length out) (drop (at - length xs) ys)
        ≡ take n (drop at xs) ++ take (n - length (drop at xs)) (drop (at - length xs) ys)
    cases = ap (λ (k : ℕ). take n (drop at xs) ++ take k (drop (at - length xs) ys))
        (let long : length out ≡ min n (length (drop at xs)) = ap length e ∙ length-take n (drop at xs) in
        let f : n - length out ≡ n - length (drop at xs) = omega (arith, long) in f)

-- ---- blocks
read-at : (z : Zone) (x : List ℕ) (n : ℕ) → bytes_read z x n ≡ bytes_at z x 0 n
unfolding bytes_read bytes_at
read-at z x n = refl

block-at : (z : Zone) (x : List ℕ) (b n : ℕ) → n ≤ z.block → n ≤ length (part_reading z x (Block b)).bytes
    → bytes_at z x (0 + z.block * b) n ≡ take n (part_reading z x (Block b)).bytes
unfolding bytes_at
block-at z x b n most fits = map-range_from_places (λ q. byte_read z x q) (0 + z.block * b) n
    (part_reading z x (Block b)).bytes fits
    (λ j h. ap (λ (q : ℕ). byte_read z x q) (let e : 0 + z.block * b + j ≡ z.block * b + j = omega arith in e)
    ∙ block-byte z x b j (omega (arith, h, most)))

pub source-block : (z : Zone) (x : List ℕ) (w : Words) (log tail : List ℕ) (b n : ℕ) → IsValidZone z
    → length x ≡ z.size → AreBytes x → IsRing w z.cap → log ≡ log_read z x w
    → bytes_read z x w.size ++ tail ≡ bytes_read z x (read_end z w.size)
    → n ≡ (w.size + z.block - 1) / z.block → b < n → HasBlock z x b w.start log tail
unfolding read_end
source-block z x w log tail b n valid size bytes ring e tails count less =
    let held = log-unturned z x w log ring e in
    let q : ℕ = (w.size + z.block - 1) / z.block in
    let low : z.block * b < w.size = below_count z.block w.size b (block_some z valid) (omega (arith, less, count)) in
    let most = ring.1 in
    let start = ring.0 in
    let within : z.block * b < z.cap = omega (arith, low, most) in
    let long : length (part_reading z x (Block b)).bytes ≡ min (z.block * (b + 1)) z.cap - z.block * b =
    (length-reading z x (Block b) bytes).0 ∙ block-length z x b valid size within in
    let next : z.block * (b + 1) ≡ z.block * b + z.block = grind arith in
    let up : z.block * (b + 1) ≤ z.block * q = mul-le-mul_left z.block (let l : b + 1 ≤ q = omega (arith, less, count) in l) in
    let end : ℕ = min (z.block * q) z.cap in
    let k : ℕ = min z.block (end - z.block * b) in
    let same : k ≡ length (part_reading z x (Block b)).bytes = omega (arith, long, next, up, within) in
    record {
      turned = omega (arith, held.1, start);
      few = within;
      bytes = ap (λ (l : List ℕ). take z.block (drop (z.block * b) l))
          (ap (λ (l : List ℕ). l ++ tail) held.0 ∙ tails ∙ read-at z x end)
          ∙ ap (λ (l : List ℕ). take z.block l) (bytes_at-drop z x (z.block * b) 0 end)
          ∙ bytes_at-take z x z.block (0 + z.block * b) (end - z.block * b)
          ∙ block-at z x b k (omega arith) (omega (arith, same))
          ∙ take_all k (part_reading z x (Block b)).bytes (omega (arith, same));
    }

-- as many stores of a run as the limit lets
pub run-taken : (p : ℕ) (items bytes : List ℕ) (left n : ℕ) → bytes ≡ items → n ≡ min left (length items)
    → byte_stores p (take n bytes) ≡ take left (byte_stores p items)
run-taken p items bytes left n e en =
    ap (λ (l : List ℕ). byte_stores p (take n l)) e
    ∙ ap (λ (l : List ℕ). byte_stores p l) (elim (cases_lt left (length items)) [
      | inl less ↦ ap (λ (m : ℕ). take m items) (let f : n ≡ left = omega (arith, en, less) in f)
      | inr most ↦ take_all n items (omega (arith, en, most)) ∙ sym (take_all left items (omega (arith, most)))
    ])
    ∙ sym (byte-take left p items)
