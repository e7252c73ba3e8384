-- A part within bounds reads as at its stop, and an idle zone what it was told: at every parity
use Rattle.std.proofs.Common.{◌≡◌, ℕ, zero, suc, ◌+◌, ◌-◌, ◌*◌, ◌/◌, ◌%◌, ◌<◌, ◌≤◌, ◌==◌, if◌then◌else◌, false, List}
use Rattle.std.proofs.Common.{[], ◌∷◌, ◌++◌, length, map, take, get_or, slice_get, refl, sym, ap, ap₂, ◌∙◌, subst}
use Rattle.std.proofs.Common.{arith, inl, inr, ◌⊎◌, Option, Some, None}
use Rattle.std.proofs.lemmas.Bool.Decides.{nat_tests}
use Rattle.std.proofs.lemmas.List.{length-map}
use Rattle.std.specs.List.{range_with_len}
use Rattle.std.proofs.lemmas.Slice.Eq.{bytes_eq-Decides}
use Rattle.list_laws.proofs.Gets.{slice_get-map_some}
use Rattle.zone_spec.specs.declared.Zone.{Zone}
use Rattle.zone_spec.specs.declared.Words.{Words}
use Rattle.zone_spec.specs.declared.State.{State}
use Rattle.zone_spec.specs.declared.State.TheVariants.{Unsigned, Empty, Invalid, Found}
use Rattle.zone_spec.specs.declared.Verdict.TheVariants.{AsTold}
use Rattle.zone_spec.specs.Zones.{IsValidZone}
use Rattle.code_spec.specs.Code.{IsWord, nearest, IsNear}
use Rattle.zone_spec.specs.Parts.{AreBytes, Part, Header, Block, part_bytes, part_word, words_in, standing_words}
use Rattle.zone_spec.specs.Parts.{IsImage}
use Rattle.zone_spec.specs.PartReadings.{part_reading, words_read}
use Rattle.zone_spec.specs.Reading.{ZoneReading, byte_read, log_places, state_of, reading_in, zone_reading}
use Rattle.zone_spec.specs.Ring.{IsRingForm}
use Rattle.zone_spec.specs.Damage.{IsWithinBounds, BlocksWithinBounds}
use Rattle.zone_spec.specs.Verdicts.{verdict_of}
use Rattle.damage_laws.specs.Idle.{PartReadsAsAtStop, IdleZoneReadsTold}
use Rattle.code_laws.proofs.Nearest.{nearest-IsNear}
use Rattle.code_laws.proofs.Laws.{nearest_law}
use Rattle.ring_laws.proofs.PartsLaw.{block_some}
use Rattle.ring_laws.proofs.PartWords.{part_word-IsWord, length-part_bytes, length-part_word, part_word-short}
use Rattle.ring_laws.proofs.PartWords.{part_bytes-word, reading_near, reading_none}
use Rattle.ring_laws.proofs.RingBytes.{length-log_places}
use Rattle.ring_laws.proofs.ReadingLaw.{part_reading-stands, state_of-ring}
use Rattle.ring_laws.proofs.States.{log_same, reading_is}
use Rattle.ring_laws.proofs.Fixes.{part_byte}

-- a word within half the parity of a codeword has it for its nearest
pub near_is : (z : Zone) (now : List ℕ) (part : Part) (c : List ℕ) → IsValidZone z → AreBytes now
    → IsNear z.parity (part_word z now part) c → nearest z.parity (part_word z now part) ≡ Some c
near_is z now part c valid h near =
    (nearest_law z.parity (part_word z now part) c (part_word-short z now part valid)
    (part_word-IsWord z now part h)).1 (near.word, near.codeword, near.within)

-- two images whose part has one nearest codeword read the same
pub same_nearest : (z : Zone) (stop now : List ℕ) (part : Part) (c : List ℕ) → length now ≡ length stop
    → nearest z.parity (part_word z stop part) ≡ Some c → nearest z.parity (part_word z now part) ≡ Some c
    → (part_reading z now part).bytes ≡ (part_reading z stop part).bytes
same_nearest z stop now part c l e f = reading_near z now part c f
    ∙ ap (λ n. take n c) (length-part_bytes z now stop part l) ∙ sym (reading_near z stop part c e)

-- and so do two images with one word
pub same_word : (z : Zone) (stop now : List ℕ) (part : Part) → length now ≡ length stop
    → part_word z now part ≡ part_word z stop part → (part_reading z now part).bytes ≡ (part_reading z stop part).bytes
same_word z stop now part l e = by (nearest z.parity (part_word z stop part)) refl
  where
    by : (o : Option (List ℕ)) → nearest z.parity (part_word z stop part) ≡ o
        → (part_reading z now part).bytes ≡ (part_reading z stop part).bytes
    by (Some c) n = same_nearest z stop now part c l n (ap (nearest z.parity) e ∙ n)
    by None n =
        reading_none z now part (ap (nearest z.parity) e ∙ n) ∙ sym (part_bytes-word z now part)
        ∙ ap₂ take (length-part_bytes z now stop part l) e
        ∙ part_bytes-word z stop part ∙ sym (reading_none z stop part n)

pub part_reads : (z : Zone) (stop now : List ℕ) (part : Part) → IsValidZone z → IsImage z stop → IsImage z now
    → IsWithinBounds z stop now part → (part_reading z now part).bytes ≡ (part_reading z stop part).bytes
part_reads z stop now part valid hs hn (inl sound) =
    let c : List ℕ = sound.0 in
    let l : length now ≡ length stop = hn.0 ∙ sym hs.0 in
    let near : IsNear z.parity (part_word z stop part) c =
    nearest-IsNear z.parity (part_word z stop part) c (part_word-IsWord z stop part hs.1) sound.1 in
    same_nearest z stop now part c l sound.1
    (near_is z now part c valid hn.1 (record {
      codeword = near.codeword;
      within = sound.2;
      word = subst (λ n. IsWord n c) (sym (length-part_word z now stop part l)) near.word;
    }))
part_reads z stop now part valid hs hn (inr same) = same_word z stop now part (hn.0 ∙ sym hs.0) same

pub part_reads_as_at_stop : PartReadsAsAtStop
part_reads_as_at_stop z stop now part valid hs hn own within = part_reads z stop now part valid hs hn within

-- ---- an idle zone

get-range : (n a i p : ℕ) → slice_get (range_with_len a n) i ≡ Some p → (a ≤ p) × (p < a + n)
get-range zero a i p e = let b : Some p ≡ None = sym e in cc
get-range (suc n) a zero p e = let s : a ≡ p = cc in (omega arith, omega arith)
get-range (suc n) a (suc i) p e = let r = get-range n (a + 1) i p e in (omega (arith, r.0), omega (arith, r.1))

get-join : {X : Type 0} (xs ys : List X) (i : ℕ) (x : X) → slice_get (xs ++ ys) i ≡ Some x
    → ((j : ℕ) × (slice_get xs j ≡ Some x)) ⊎ ((j : ℕ) × (slice_get ys j ≡ Some x))
get-join [] ys i x e = inr (i, e)
get-join (w ∷ ws) ys zero x e = inl (zero, e)
get-join (w ∷ ws) ys (suc i) x e = elim (get-join ws ys i x e) [ inl a ↦ inl (suc a.0, a.1) | inr b ↦ inr b ]

-- a place of a log is below its size
pub place_below : (start size i p : ℕ) → start ≤ size → slice_get (log_places start size) i ≡ Some p → p < size
place_below start size i p l e = elim (get-join (range_with_len start (size - start)) (range_with_len 0 start) i p e) [
  | inl a ↦ (let r = get-range (size - start) start a.0 p a.1 in omega (arith, r.1))
  | inr b ↦ (let r = get-range start 0 b.0 p b.1 in omega (arith, r.1))
]

-- a data place reads the byte that stood there, where its block reads so
pub byte_read-stop : (z : Zone) (stop now : List ℕ) (place : ℕ) → 0 < z.block → place < z.cap
    → (part_reading z now (Block (place / z.block))).bytes ≡ part_bytes z stop (Block (place / z.block))
    → byte_read z now place ≡ get_or stop (12 + place) 0
byte_read-stop z stop now place k h reads =
    let q : ℕ = place / z.block in
    let m : ℕ = place % z.block in
    let whole : z.block * q + m ≡ place = omega arith in
    let small : m < z.block = omega arith in
    let next : z.block * (q + 1) ≡ z.block * q + z.block = grind arith in
    ap (λ xs. get_or xs m 0) reads ∙ part_byte z stop (Block q) m (omega arith)
    ∙ ap (λ i. get_or stop i 0) (let e : (12 + z.block * q) + m ≡ 12 + place = omega arith in e)

-- what a zone at rest reads, its header within bounds
pub record IdleFacts (z : Zone) (stop now told : List ℕ) : Type 0 where
  pub words : words_read z now ≡ standing_words z stop
  pub state : (zone_reading z now).state ≡ (if length told == 0 then Empty else Found)
  pub log : (zone_reading z now).log ≡ map (λ place. byte_read z now place)
      (log_places (standing_words z stop).start (standing_words z stop).size)

some_state : (n : ℕ) (s : State) → s ≡ (if suc n == 0 then Empty else Found) → s ≡ Found
some_state n s e = let m : (suc n == 0) ≡ false = grind (arith, nat_tests) in rw m at e

pub log_by : (z : Zone) (now : List ℕ) (w : Words) (s : State) (n : ℕ) → s ≡ (if n == 0 then Empty else Found)
    → n ≡ w.size → w.start ≤ w.size
    → ((reading_in z now w s).log ≡ map (λ place. byte_read z now place) (log_places w.start w.size))
    × ((reading_in z now w s).state ≡ s)
log_by z now w Found n e m l = (refl, refl)
log_by z now w Empty zero e m l = (none w.start w.size (omega (arith, m)) (omega (arith, m, l)), refl)
  where
    none : (s n : ℕ) → n ≡ 0 → s ≡ 0 → [] ≡ map (λ place. byte_read z now place) (log_places s n)
    none s n a b = rw (a, b) refl
log_by z now w Empty (suc n) e m l = let f : Empty ≡ Found = some_state n Empty e in cc
log_by z now w Unsigned zero e m l = let f : Unsigned ≡ Empty = e in cc
log_by z now w Unsigned (suc n) e m l = let f : Unsigned ≡ Found = some_state n Unsigned e in cc
log_by z now w Invalid zero e m l = let f : Invalid ≡ Empty = e in cc
log_by z now w Invalid (suc n) e m l = let f : Invalid ≡ Found = some_state n Invalid e in cc

pub idle_facts : (z : Zone) (stop now told : List ℕ) → IsRingForm z stop told
    → (part_reading z now Header).bytes ≡ (part_reading z stop Header).bytes → IdleFacts z stop now told
unfolding part_bytes
idle_facts z stop now told ring head =
    let w : Words = standing_words z stop in
    let words : words_read z now ≡ w = ap (words_in z.byte_order)
    (head ∙ part_reading-stands z stop Header ring.header) in
    let state : state_of z w ≡ (if length told == 0 then Empty else Found) =
    state_of-ring z w ring.signed ring.ring.0 ring.ring.1
    ∙ ap (λ n. if n == 0 then Empty else Found) ring.told_length in
    let all = log_by z now w (state_of z w) (length told) state (sym ring.told_length) ring.ring.0 in
    let is : zone_reading z now ≡ reading_in z now w (state_of z w) =
    reading_is z now ∙ ap (λ v. reading_in z now v (state_of z v)) words in
    record {
      words = words;
      state = ap (λ (r : ZoneReading). r.state) is ∙ all.1 ∙ state;
      log = ap (λ (r : ZoneReading). r.log) is ∙ all.0;
    }

-- a place whose block is within bounds reads the byte that stood at the stop
pub place_reads : (z : Zone) (stop now told : List ℕ) (place : ℕ) → IsValidZone z → IsImage z stop → IsImage z now
    → IsRingForm z stop told → place < (standing_words z stop).size
    → IsWithinBounds z stop now (Block (place / z.block)) → byte_read z now place ≡ get_or stop (12 + place) 0
place_reads z stop now told place valid hs hn ring below within =
    let m : z.block * (place / z.block) ≤ place = omega (arith, block_some z valid) in
    byte_read-stop z stop now place (block_some z valid) (omega (arith, ring.ring.1))
    (part_reads z stop now (Block (place / z.block)) valid hs hn within
    ∙ part_reading-stands z stop (Block (place / z.block)) (ring.blocks (place / z.block) (omega arith)))

pub idle_log : (z : Zone) (stop now told : List ℕ) → IsValidZone z → IsImage z stop → IsImage z now
    → IsRingForm z stop told → IsWithinBounds z stop now Header
    → BlocksWithinBounds z stop now (length told) → (zone_reading z now).log ≡ told
idle_log z stop now told valid hs hn ring head blocks =
    let w : Words = standing_words z stop in
    (idle_facts z stop now told ring (part_reads z stop now Header valid hs hn head)).log
    ∙ log_same _ _ w.start w.size ring.ring.0
    (λ p h. place_reads z stop now told p valid hs hn ring h
    (blocks (p / z.block) (let m : z.block * (p / z.block) ≤ p = omega (arith, block_some z valid) in
    omega (arith, ring.told_length))))
    ∙ ring.bytes

pub idle_zone_reads_told : IdleZoneReadsTold
idle_zone_reads_told z stop now told valid hs hn ring head =
    let w : Words = standing_words z stop in
    let facts : IdleFacts z stop now told = idle_facts z stop now told ring
    (part_reads z stop now Header valid hs hn head) in
    record {
      size = ap length facts.log ∙ length-map (log_places w.start w.size) (λ place. byte_read z now place)
          ∙ length-log_places w.start w.size ring.ring.0 ∙ ring.told_length;
      places = λ i place e within.
          let at : slice_get (log_places w.start w.size) i ≡ Some place =
          subst (λ v. slice_get (log_places v.start v.size) i ≡ Some place) facts.words e in
          ap (λ xs. slice_get xs i) facts.log ∙ slice_get-map_some (λ place. byte_read z now place)
          (log_places w.start w.size) i place at
          ∙ ap Some (place_reads z stop now told place valid hs hn ring
          (place_below w.start w.size i place ring.ring.0 at) within)
          ∙ sym (ap (λ xs. slice_get xs i) (sym ring.bytes)
          ∙ slice_get-map_some (λ place. get_or stop (12 + place) 0) (log_places w.start w.size) i place at);
      whole = λ blocks. verdict_same told (zone_reading z now).log
          (idle_log z stop now told valid hs hn ring head blocks);
      state = facts.state;
    }
  where
    verdict_same : (told log : List ℕ) → log ≡ told → verdict_of (Some told) log ≡ AsTold
    verdict_same told log e = rw e (rw ((bytes_eq-Decides told told).1 refl) refl)
