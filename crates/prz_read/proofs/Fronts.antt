-- The front of a zone's data as its blocks read, and the counts of these blocks
use Rattle.std.proofs.Common.{◌≡◌, ℕ, ◌+◌, ◌-◌, ◌*◌, ◌%◌, ◌<◌, ◌≤◌, min, List, [], ◌++◌, length, take, drop, map}
use Rattle.std.proofs.Common.{get_or, Bool, true, false, not, ◌==◌, nat_lt, ◌&&◌, if◌then◌else◌, refl, sym, ap, ap₂}
use Rattle.std.proofs.Common.{◌∙◌, arith, mul_comm, ◌||◌}
use Rattle.std.specs.List.{range_with_len}
use Rattle.std.specs.Prelude.{slice_index}
use Rattle.std.proofs.lemmas.List.{map-append}
use Rattle.std.proofs.lemmas.List.FromFn.{length-map-range_with_len}
use Rattle.std.proofs.Math.Seq.{drop-append_seam, take-append_seam}
use Rattle.std.proofs.lemmas.Nat.{div-mul-add, mod-mul-add}
use Rattle.std.proofs.lemmas.Bool.Decides.{nat_tests}
use Rattle.list_laws.proofs.Ranges.{range_with_len-add, map-range_from_places}
use Rattle.zone_spec.specs.declared.Zone.{Zone}
use Rattle.zone_spec.specs.declared.Words.{Words}
use Rattle.zone_spec.specs.Zones.{IsValidZone}
use Rattle.zone_spec.specs.Parts.{AreBytes, Header, Block}
use Rattle.zone_spec.specs.declared.State.{State}
use Rattle.zone_spec.specs.declared.State.TheVariants.{Unsigned, Empty, Invalid, Found}
use Rattle.zone_spec.specs.PartReadings.{part_reading, words_read}
use Rattle.zone_spec.specs.Reading.{ZoneReading, byte_read, log_read, state_of, reading_in, zone_reading, IsRing}
use Rattle.prz_read.specs.Reads.{bytes_read, corrected_below, bad_below}
use Rattle.ring_laws.proofs.BootLaw.{length-reading}
use Rattle.prz_read.proofs.Images.{block-length}

-- ---- numbers in a row

pub range-front : (n k : ℕ) → range_with_len 0 (n + k) ≡ range_with_len 0 n ++ range_with_len n k
range-front n k = range_with_len-add 0 n k ∙ ap (λ (m : ℕ). range_with_len 0 n ++ range_with_len m k)
    (let e : 0 + n ≡ n = omega arith in e)

-- ---- rounding up

-- ---- bytes of blocks
pub block-byte : (z : Zone) (x : List ℕ) (b j : ℕ) → j < z.block
    → byte_read z x (z.block * b + j) ≡ get_or (part_reading z x (Block b)).bytes j 0
block-byte z x b j h =
    ap (λ (p : ℕ). byte_read z x p) (ap (λ (n : ℕ). n + j) (mul_comm z.block b))
    ∙ ap (λ (c : ℕ). slice_index (part_reading z x (Block c)).bytes ((b * z.block + j) % z.block))
    (div-mul-add b z.block j h)
    ∙ ap (λ (i : ℕ). get_or (part_reading z x (Block b)).bytes i 0) (mod-mul-add b z.block j h)

bytes_read-more : (z : Zone) (x : List ℕ) (n k : ℕ) (xs : List ℕ) → k ≤ length xs
    → ((j : ℕ) → j < k → byte_read z x (n + j) ≡ get_or xs j 0) → bytes_read z x (n + k) ≡ bytes_read z x n ++ take k xs
unfolding bytes_read
bytes_read-more z x n k xs l h =
    ap (λ (ps : List ℕ). map (λ p. byte_read z x p) ps) (range-front n k)
    ∙ map-append (λ p. byte_read z x p) (range_with_len 0 n) (range_with_len n k)
    ∙ ap (λ (ys : List ℕ). map (λ p. byte_read z x p) (range_with_len 0 n) ++ ys)
    (map-range_from_places (λ p. byte_read z x p) n k xs l h)

-- a block's bytes, as far as they lie below n, come behind those of the blocks before it
pub bytes_read-next : (z : Zone) (x : List ℕ) (b n : ℕ) → IsValidZone z → length x ≡ z.size → AreBytes x → n ≤ z.cap
    → z.block * b < n
    → (min z.block (n - z.block * b) ≤ length (part_reading z x (Block b)).bytes)
    × (bytes_read z x (min (z.block * (b + 1)) n) ≡ bytes_read z x (min (z.block * b) n) ++ take
    (min z.block (n - z.block * b)) (part_reading z x (Block b)).bytes)
bytes_read-next z x b n valid size bytes within some =
    let next : z.block * (b + 1) ≡ z.block * b + z.block = grind arith in
    let long : length (part_reading z x (Block b)).bytes ≡ min (z.block * (b + 1)) z.cap - z.block * b =
    (length-reading z x (Block b) bytes).0 ∙ block-length z x b valid size (omega arith) in
    let fits : min z.block (n - z.block * b) ≤ length (part_reading z x (Block b)).bytes = omega arith in (
      fits,
      ap (λ (m : ℕ). bytes_read z x m) (let e : min (z.block * (b + 1)) n
          ≡ z.block * b + min z.block (n - z.block * b) = omega arith in e)
          ∙ bytes_read-more z x (z.block * b) (min z.block (n - z.block * b)) _ fits
          (λ j h. block-byte z x b j (omega arith))
          ∙ ap (λ (m : ℕ). bytes_read z x m ++ take (min z.block (n - z.block * b))
          (part_reading z x (Block b)).bytes) (let e : z.block * b ≡ min (z.block * b) n = omega arith in e),
    )

-- ---- the log
pub bytes_read-length : (z : Zone) (x : List ℕ) (n : ℕ) → length (bytes_read z x n) ≡ n
unfolding bytes_read
bytes_read-length z x n = length-map-range_with_len (λ p. byte_read z x p) 0 n

-- the bytes below size, turned to begin at start, are the log
pub log-turned : (z : Zone) (x : List ℕ) (w : Words) → IsRing w z.cap
    → drop w.start (bytes_read z x w.size) ++ take w.start (bytes_read z x w.size) ≡ log_read z x w
unfolding bytes_read
log-turned z x w ring =
    let f : ℕ → ℕ = λ p. byte_read z x p in
    let front : List ℕ = map f (range_with_len 0 w.start) in
    let back : List ℕ = map f (range_with_len w.start (w.size - w.start)) in
    let n : length front ≡ w.start = length-map-range_with_len f 0 w.start in
    let whole : bytes_read z x w.size ≡ front ++ back =
    ap (λ (m : ℕ). map f (range_with_len 0 m)) (let e : w.size
    ≡ w.start + (w.size - w.start) = (let r = ring.0 in omega (arith, r)) in e)
    ∙ ap (λ (ps : List ℕ). map f ps) (range-front w.start (w.size - w.start))
    ∙ map-append f (range_with_len 0 w.start) (range_with_len w.start (w.size - w.start)) in
    ap (λ (l : List ℕ). drop w.start l ++ take w.start l) whole
    ∙ ap₂ (λ (xs ys : List ℕ). xs ++ ys) (ap (λ (k : ℕ). drop k (front ++ back)) (sym n)
    ∙ drop-append_seam front back) (ap (λ (k : ℕ). take k (front ++ back)) (sym n) ∙ take-append_seam front back)
    ∙ sym (map-append f (range_with_len w.start (w.size - w.start)) (range_with_len 0 w.start))

pub bytes_read-none : (z : Zone) (x : List ℕ) (n : ℕ) → n ≡ 0 → [] ≡ bytes_read z x n
unfolding bytes_read
bytes_read-none z x n e = sym (ap (λ (m : ℕ). map (λ p. byte_read z x p) (range_with_len 0 m)) e)

-- ---- the reading
pub reading-found : (z : Zone) (x : List ℕ) (w : Words) (log : List ℕ) (h m k n : ℕ) → w ≡ words_read z x
    → state_of z w ≡ Found → log ≡ log_read z x w
    → h ≡ (part_reading z x Header).corrected → m ≡ corrected_below z x w.size → k ≡ (part_reading z x Header).bad
    → n ≡ bad_below z x w.size
    → ◌≡◌ {A = ZoneReading} (record { state = Found; words = w; log = log; corrected = h + m; bad = k + n })
    (zone_reading z x)
unfolding zone_reading
reading-found z x w log h m k n words state logs hc mc hb mb =
    (let e : ◌≡◌ {A = ZoneReading} (record { state = Found; words = w; log = log; corrected = h + m; bad = k + n })
    (record { state = Found; words = w; log = log_read z x w; corrected = h + m; bad = k + n }) =
    ap (λ (l : List ℕ). record { state = Found; words = w; log = l; corrected = h + m; bad = k + n }) logs in e)
    ∙ (let e : ◌≡◌ {A = ZoneReading} (record {
      state = Found;
      words = w;
      log = log_read z x w;
      corrected = h + m;
      bad = k + n;
    }) (reading_in z x w Found) = ap₂ (λ (c b : ℕ). record {
      state = Found;
      words = w;
      log =
          log_read z x w;
      corrected = c;
      bad = b;
    }) (ap₂ (λ (a b : ℕ). a + b) hc mc) (ap₂ (λ (a b : ℕ). a + b) hb mb) in
    e)
    ∙ ap (λ (s : State). reading_in z x w s) (sym state) ∙ ap (λ (v : Words). reading_in z x v (state_of z v)) words

reading-in : (z : Zone) (x : List ℕ) (w : Words) (s : State) → (s ≡ Found → ⊥)
    → ◌≡◌ {A = ZoneReading} (record {
      state = s;
      words = w;
      log = [];
      corrected = (part_reading z x Header).corrected;
      bad = (part_reading z x Header).bad;
    }) (reading_in z x w s)
reading-in z x w Unsigned other = refl
reading-in z x w Empty other = refl
reading-in z x w Invalid other = refl
reading-in z x w Found other = absurd (other refl)

pub reading-other : (z : Zone) (x : List ℕ) (w : Words) (s : State) (log : List ℕ) (h k : ℕ) → w ≡ words_read z x
    → s ≡ state_of z w → (s ≡ Found → ⊥) → log ≡ []
    → h ≡ (part_reading z x Header).corrected → k ≡ (part_reading z x Header).bad
    → ◌≡◌ {A = ZoneReading} (record { state = s; words = w; log = log; corrected = h; bad = k }) (zone_reading z x)
unfolding zone_reading
reading-other z x w s log h k words state other none hc hb =
    (let e : ◌≡◌ {A = ZoneReading} (record { state = s; words = w; log = log; corrected = h; bad = k })
    (record { state = s; words = w; log = []; corrected = h; bad = k }) =
    ap (λ (l : List ℕ). record { state = s; words = w; log = l; corrected = h; bad = k }) none in e)
    ∙ ap₂ (λ (c b : ℕ). record { state = s; words = w; log = []; corrected = c; bad = b }) hc hb
    ∙ reading-in z x w s other ∙ ap (λ (t : State). reading_in z x w t) state
    ∙ ap (λ (v : Words). reading_in z x v (state_of z v)) words

-- ---- rings
pub ring-found : (z : Zone) (w : Words) → state_of z w ≡ Found → IsRing w z.cap
ring-found z w h = by (not (w.sig == z.sig)) ((w.size == 0) && (w.start == 0)) (nat_lt z.cap w.size)
    (nat_lt w.size w.start) refl refl h
  where
    by : (a b c d : Bool) → nat_lt z.cap w.size ≡ c → nat_lt w.size w.start ≡ d
        → (if a then Unsigned else (if b then Empty else (if c || d then Invalid else Found))) ≡ Found → IsRing w z.cap
    by true b c d e f g = absurd (cc)
    by false true c d e f g = absurd (cc)
    by false false true d e f g = absurd (cc)
    by false false false true e f g = absurd (cc)
    by false false false false e f g = (grind (arith, nat_tests), grind (arith, nat_tests))
