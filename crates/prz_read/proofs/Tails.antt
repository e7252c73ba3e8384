-- The bytes after a log that its last block reads, and the log turned back
use Rattle.std.proofs.Common.{◌≡◌, ℕ, ◌+◌, ◌-◌, ◌*◌, ◌/◌, ◌%◌, ◌<◌, ◌≤◌, min, List, [], ◌++◌, length, take, drop, sym}
use Rattle.std.proofs.Common.{ap, ap₂, ◌∙◌, subst, arith, length-take, length-drop, length-append, take-append-drop}
use Rattle.std.proofs.Common.{take_all, append_assoc}
use Rattle.std.proofs.Math.Seq.{take-append_seam, drop-append_seam}
use Rattle.std.proofs.lemmas.List.{append-nil}
use Rattle.std.proofs.lemmas.Grind.{div_ceil_times}
use Rattle.list_laws.proofs.RoundingUp.{div_ceil_is}
use Rattle.zone_spec.specs.declared.Zone.{Zone}
use Rattle.zone_spec.specs.declared.Words.{Words}
use Rattle.zone_spec.specs.declared.State.{State}
use Rattle.zone_spec.specs.declared.State.TheVariants.{Found}
use Rattle.zone_spec.specs.Zones.{IsValidZone}
use Rattle.zone_spec.specs.Parts.{AreBytes, Block}
use Rattle.zone_spec.specs.PartReadings.{part_reading, words_read}
use Rattle.zone_spec.specs.Reading.{log_read, IsRing, zone_reading, reading_in}
use Rattle.ring_laws.proofs.PartsLaw.{block_some}
use Rattle.ring_laws.proofs.BootLaw.{length-reading}
use Rattle.ring_laws.proofs.States.{reading_words, reading_state}
use Rattle.prz_read.specs.Reads.{bytes_read, read_end}
use Rattle.prz_read.specs.Sources.{unturned}
use Rattle.prz_read.proofs.Images.{block-length}
use Rattle.prz_read.proofs.Fronts.{bytes_read-length, bytes_read-next, log-turned, ring-found}

-- ---- blocks
module _ (z : Zone) (x : List ℕ) (valid : IsValidZone z) (size : length x ≡ z.size) (bytes : AreBytes x) where
  -- a whole block behind those before it
  whole-next : (b : ℕ) → z.block * b < z.cap
      → (length (part_reading z x (Block b)).bytes ≡ min (z.block * (b + 1)) z.cap - z.block * b)
      × (bytes_read z x (min (z.block * (b + 1)) z.cap) ≡ bytes_read z x (z.block * b)
      ++ (part_reading z x (Block b)).bytes)
  whole-next b within =
      let next : z.block * (b + 1) ≡ z.block * b + z.block = grind arith in
      let ys : List ℕ = (part_reading z x (Block b)).bytes in
      let long : length ys ≡ min (z.block * (b + 1)) z.cap - z.block * b =
      (length-reading z x (Block b) bytes).0 ∙ block-length z x b valid size within in (
        long,
        (bytes_read-next z x b z.cap valid size bytes (omega arith) within).1
            ∙ ap₂ (λ (n : ℕ) (l : List ℕ). bytes_read z x n ++ l) (let e : min (z.block * b) z.cap ≡ z.block * b =
            omega arith in e) (take_all (min z.block (z.cap - z.block * b)) ys (omega arith)),
      )

  -- ---- the bytes behind n in the block that n cuts
  pub end-whole : (n : ℕ) → n ≡ z.cap → read_end z n ≡ n
  unfolding read_end
  end-whole n e =
      let t = div_ceil_times n z.block (block_some z valid) in
      let c = div_ceil_is n z.block (block_some z valid) in
      let q : ℕ = (n + z.block - 1) / z.block in
      let low : n ≤ q * z.block = rw (← c) (t.0) in
      let turned : z.block * q ≡ q * z.block = grind arith in
      omega (arith, low, turned, e)

  pub end-block : (n : ℕ) → n ≤ z.cap → n % z.block ≡ 0 → read_end z n ≡ n
  unfolding read_end
  end-block n within e =
      let some = block_some z valid in
      let c = div_ceil_is n z.block some in
      let q : ℕ = (n + z.block - 1) / z.block in
      let same : n / z.block ≡ q = (let m : min 1 (n % z.block) ≡ 0 = omega (arith, e) in omega (arith, c, m)) in
      let is : z.block * (n / z.block) + n % z.block ≡ n = omega (arith, some) in
      let turned : z.block * q ≡ z.block * (n / z.block) = ap (λ (m : ℕ). z.block * m) (sym same) in
      omega (arith, is, turned, e, within)

  pub tail-none : (n : ℕ) → read_end z n ≡ n → bytes_read z x n ++ [] ≡ bytes_read z x (read_end z n)
  tail-none n e = append-nil (bytes_read z x n) ∙ ap (λ (m : ℕ). bytes_read z x m) (sym e)

  pub tail-some : (n : ℕ) (w b : ℕ) (out : List ℕ) → n < z.cap → w ≡ n % z.block → b ≡ n / z.block → 0 < w
      → out ≡ (part_reading z x (Block b)).bytes
      → (w ≤ length out) × (length out ≤ 128)
      × (bytes_read z x n ++ drop w out ≡ bytes_read z x (read_end z n))
  unfolding read_end
  tail-some n w b out within ew eb some read =
      let k = block_some z valid in
      let is : z.block * (n / z.block) + n % z.block ≡ n = omega (arith, k) in
      let low : n % z.block < z.block = omega (arith, k) in
      let at : z.block * b ≡ z.block * (n / z.block) = ap (λ (m : ℕ). z.block * m) eb in
      let next : z.block * (b + 1) ≡ z.block * b + z.block = grind arith in
      let inside : z.block * b < z.cap = omega (arith, is, at, within) in
      let whole = whole-next b inside in
      let long : length out ≡ min (z.block * (b + 1)) z.cap - z.block * b = ap length read ∙ whole.0 in
      let front = (bytes_read-next z x b n valid size bytes (omega arith) (omega (arith, is, at, ew, some))).1 in
      let most : z.block ≤ 128 = (let v = valid.block in grind (arith, v)) in
      let last : (n + z.block - 1) / z.block ≡ b + 1 =
      (let c = div_ceil_is n z.block k in let m : min 1 (n % z.block) ≡ 1 =
      omega (arith, ew, some) in omega (arith, c, m, eb)) in
      let cut : min z.block (n - z.block * b) ≡ w = omega (arith, is, at, ew, low) in
      let here : bytes_read z x n ≡ bytes_read z x (z.block * b) ++ take w out =
      ap (λ (m : ℕ). bytes_read z x m) (let e : n ≡ min (z.block * (b + 1)) n = omega (arith, is, at, low, next) in e)
      ∙ front
      ∙ ap₂ (λ (m l : ℕ). bytes_read z x m ++ take l (part_reading z x (Block b)).bytes)
      (let e : min (z.block * b) n ≡ z.block * b = omega (arith, is, at) in e) cut
      ∙ ap (λ (l : List ℕ). bytes_read z x (z.block * b) ++ take w l) (sym read) in (
        omega (arith, long, is, at, ew, low, next, within),
        omega (arith, long, next, most),
        ap (λ (l : List ℕ). l ++ drop w out) here
            ∙ append_assoc (bytes_read z x (z.block * b)) (take w out) (drop w out)
            ∙ ap (λ (l : List ℕ). bytes_read z x (z.block * b) ++ l) (take-append-drop w out ∙ read)
            ∙ sym whole.1 ∙ ap (λ (m : ℕ). bytes_read z x (min (z.block * m) z.cap)) (sym last),
      )

-- ---- a log that is turned back
pub log-unturned : (z : Zone) (x : List ℕ) (w : Words) (log : List ℕ) → IsRing w z.cap → log ≡ log_read z x w
    → (unturned w.start log ≡ bytes_read z x w.size) × (length log ≡ w.size)
log-unturned z x w log ring e =
    let all : List ℕ = bytes_read z x w.size in
    let n : length all ≡ w.size = bytes_read-length z x w.size in
    let back : List ℕ = drop w.start all in
    let front : List ℕ = take w.start all in
    let is : log ≡ back ++ front = e ∙ sym (log-turned z x w ring) in
    let r = ring.0 in
    let nb : length back ≡ w.size - w.start = omega (arith, length-drop w.start all, n) in
    let nf : length front ≡ w.start = omega (arith, length-take w.start all, n, r) in
    let long : length log ≡ w.size = omega (arith, ap length is, length-append back front, nb, nf, r) in
    let turn : length log - w.start ≡ length back = omega (arith, long, nb) in (
      ap₂ (λ (k : ℕ) (l : List ℕ). drop k l ++ take k l) turn is
          ∙ ap₂ (λ (a b : List ℕ). a ++ b) (drop-append_seam back front) (take-append_seam back front)
          ∙ take-append-drop w.start all,
      long,
    )

-- ---- a reading that a boot found
log-of : (z : Zone) (x : List ℕ) (s : State) → s ≡ (zone_reading z x).state → s ≡ Found
    → (zone_reading z x).log ≡ log_read z x (words_read z x)
unfolding zone_reading
log-of z x s e f = ap (λ (t : State). (reading_in z x (words_read z x) t).log) (sym (reading_state z x) ∙ sym e ∙ f)

pub found : (z : Zone) (x : List ℕ) (w : Words) (log : List ℕ) (s : State) → s ≡ (zone_reading z x).state → s ≡ Found
    → w ≡ (zone_reading z x).words → log ≡ (zone_reading z x).log → IsRing w z.cap × (log ≡ log_read z x w)
found z x w log s es f ew el =
    let is : w ≡ words_read z x = ew ∙ reading_words z x in
    let ring : IsRing (words_read z x) z.cap = ring-found z (words_read z x) (sym (reading_state z x) ∙ sym es ∙ f) in (
      subst (λ (v : Words). IsRing v z.cap) (sym is) ring,
      el ∙ log-of z x s es f ∙ ap (λ (v : Words). log_read z x v) (sym is),
    )
