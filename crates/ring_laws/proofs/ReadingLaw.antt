-- A zone in ring form reads its told list, at every parity
use Rattle.std.proofs.Common.{◌≡◌, ℕ, ◌+◌, ◌*◌, ◌/◌, ◌%◌, ◌<◌, ◌≤◌, false, ◌==◌, if◌then◌else◌, List, [], ◌∷◌, length}
use Rattle.std.proofs.Common.{take, drop, get_or, refl, sym, ap, ◌∙◌, subst, arith, inl, inr, get_or-take, get_or-drop}
use Rattle.std.proofs.Common.{Option, Some, None, eq-eqb, le-ltb}
use Rattle.std.proofs.lemmas.Bool.{cases_eq}
use Rattle.std.proofs.lemmas.Bool.Decides.{nat_tests}
use Rattle.zone_spec.specs.declared.Zone.{Zone}
use Rattle.zone_spec.specs.declared.Words.{Words}
use Rattle.zone_spec.specs.declared.State.{State}
use Rattle.zone_spec.specs.declared.State.TheVariants.{Unsigned, Empty, Invalid, Found}
use Rattle.code_spec.specs.Code.{nearest}
use Rattle.zone_spec.specs.Parts.{Part, Header, Block, part_bytes, part_word, words_in, standing_words}
use Rattle.zone_spec.specs.PartReadings.{part_reading, reading_by}
use Rattle.zone_spec.specs.Reading.{byte_read, log_read, state_of, reading_in, zone_reading}
use Rattle.zone_spec.specs.Ring.{IsRingForm, ReadsAsStands}
use Rattle.ring_laws.specs.Laws.{ReadsTold}
use Rattle.ring_laws.proofs.RingBytes.{RingBytes, RingBytes-log, log-RingBytes}

reading_by-stands : (bytes word : List ℕ) (o : Option (List ℕ))
    → ((c : List ℕ) → o ≡ Some c → take (length bytes) c ≡ bytes) → (reading_by bytes word o).bytes ≡ bytes
reading_by-stands bytes word None h = refl
reading_by-stands bytes word (Some c) h = h c refl

-- such a part reads the bytes that stand
pub part_reading-stands : (z : Zone) (image : List ℕ) (part : Part) → ReadsAsStands z image part
    → (part_reading z image part).bytes ≡ part_bytes z image part
unfolding part_reading
part_reading-stands z image part h = reading_by-stands (part_bytes z image part) (part_word z image part)
    (nearest z.parity (part_word z image part)) h

-- a data place reads the byte that stands there
pub byte_read-stands : (z : Zone) (image : List ℕ) (place : ℕ) → 0 < z.block → place < z.cap
    → ReadsAsStands z image (Block (place / z.block)) → byte_read z image place ≡ get_or image (12 + place) 0
unfolding part_bytes
byte_read-stands z image place k h stands =
    let q : ℕ = place / z.block in
    let m : ℕ = place % z.block in
    let whole : z.block * q + m ≡ place = omega arith in
    let small : m < z.block = omega arith in
    let next : z.block * (q + 1) ≡ z.block * q + z.block = grind arith in
    ap (λ xs. get_or xs m 0) (part_reading-stands z image (Block q) stands)
    ∙ get_or-take _ (drop (12 + z.block * q) image) m 0 (omega arith)
    ∙ get_or-drop (12 + z.block * q) image m 0
    ∙ ap (λ i. get_or image i 0) (let e : (12 + z.block * q) + m ≡ 12 + place = omega arith in e)

pub state_of-ring : (z : Zone) (w : Words) → w.sig ≡ z.sig → w.start ≤ w.size → w.size ≤ z.cap
    → state_of z w ≡ (if w.size == 0 then Empty else Found)
state_of-ring z w e h k = elim (cases_eq w.size 0) [
  | inl a ↦ (let s : w.start ≡ 0 = omega arith in rw (eq-eqb w.sig z.sig e, eq-eqb w.size 0 a, eq-eqb w.start 0 s) refl)
  | inr b ↦ (let n : (w.size == 0) ≡ false = grind (arith, nat_tests) in
      rw (eq-eqb w.sig z.sig e, n, le-ltb z.cap w.size k, le-ltb w.size w.start h) refl)
]

told_some : (x : ℕ) (xs : List ℕ) (s : State) → s ≡ (if length (x ∷ xs) == 0 then Empty else Found) → s ≡ Found
told_some x xs s e = let n : (length (x ∷ xs) == 0) ≡ false = grind (arith, nat_tests) in rw n at e

pub reads_in : (z : Zone) (image told : List ℕ) (w : Words) (s : State) → log_read z image w ≡ told
    → s ≡ (if length told == 0 then Empty else Found)
    → ((reading_in z image w s).log ≡ told) × ((reading_in z image w s).words ≡ w)
    × ((reading_in z image w s).state ≡ s)
reads_in z image told w Found l e = (l, refl, refl)
reads_in z image [] w Empty l e = (refl, refl, refl)
reads_in z image (x ∷ xs) w Empty l e = let f : Empty ≡ Found = told_some x xs Empty e in (cc, refl, refl)
reads_in z image [] w Unsigned l e = (refl, refl, refl)
reads_in z image (x ∷ xs) w Unsigned l e = let f : Unsigned ≡ Found = told_some x xs Unsigned e in (cc, refl, refl)
reads_in z image [] w Invalid l e = (refl, refl, refl)
reads_in z image (x ∷ xs) w Invalid l e = let f : Invalid ≡ Found = told_some x xs Invalid e in (cc, refl, refl)

pub reading_law : (z : Zone) (image told : List ℕ) → 0 < z.block → IsRingForm z image told → ReadsTold z image told
unfolding zone_reading part_bytes
reading_law z image told k ring =
    let w : Words = standing_words z image in
    let same : words_in z.byte_order (part_reading z image Header).bytes ≡ w =
    ap (words_in z.byte_order) (part_reading-stands z image Header ring.header) in
    let standing : RingBytes (λ p. get_or image (12 + p) 0) w.start w.size told =
    RingBytes-log _ w.start w.size told ring.ring.0 ring.told_length ring.bytes in
    let reads : (p : ℕ) → p < w.size → byte_read z image p ≡ get_or image (12 + p) 0 =
    (λ p h. byte_read-stands z image p k (omega (arith, ring.ring.1))
    (ring.blocks (p / z.block) (let m : z.block * (p / z.block) ≤ p = omega arith in omega arith))) in
    let read : RingBytes (byte_read z image) w.start w.size told = record {
      total = standing.total;
      before = λ p h. reads p (omega (arith, ring.ring.0)) ∙ standing.before p h;
      behind = λ p h l. reads p l ∙ standing.behind p h l;
    } in
    let log : log_read z image w ≡ told = log-RingBytes (byte_read z image) w.start w.size told ring.ring.0 read in
    let state : state_of z w ≡ (if length told == 0 then Empty else Found) =
    state_of-ring z w ring.signed ring.ring.0 ring.ring.1
    ∙ ap (λ n. if n == 0 then Empty else Found) ring.told_length in
    let all : ((reading_in z image w (state_of z w)).log ≡ told) × ((reading_in z image w (state_of z w)).words ≡ w)
    × ((reading_in z image w (state_of z w)).state ≡ state_of z w) =
    reads_in z image told w (state_of z w) log state in
    let moved : ((reading_in z image (words_in z.byte_order (part_reading z image Header).bytes)
    (state_of z (words_in z.byte_order (part_reading z image Header).bytes))).log ≡ told)
    × ((reading_in z image (words_in z.byte_order (part_reading z image Header).bytes)
    (state_of z (words_in z.byte_order (part_reading z image Header).bytes))).words ≡ w)
    × ((reading_in z image (words_in z.byte_order (part_reading z image Header).bytes)
    (state_of z (words_in z.byte_order (part_reading z image Header).bytes))).state
    ≡ (if length told == 0 then Empty else Found)) =
    subst (λ v. ((reading_in z image v (state_of z v)).log ≡ told) × ((reading_in z image v (state_of z v)).words ≡ w)
    × ((reading_in z image v (state_of z v)).state ≡ (if length told == 0 then Empty else Found)))
    (sym same) (all.0, all.1, all.2 ∙ state) in
    record { log = moved.0; words = moved.1; state = moved.2 }
