-- Rings that stand for lists
use Rattle.std.proofs.Common.{◌≡◌, ℕ, ◌+◌, ◌-◌, ◌<◌, ◌≤◌, ◌==◌, min, Bool, true, false, not, ◌&&◌, if◌then◌else◌}
use Rattle.std.proofs.Common.{nat_lt, List, [], ◌∷◌, ◌++◌, length, take, drop, Option, Some, None, IfSome, refl, sym}
use Rattle.std.proofs.Common.{ap, ◌∙◌, arith, eq-eqb, length-append, length-take, length-drop, subst}
use Rattle.std.proofs.lemmas.Bool.{and_from, le-leb}
use Rattle.std.proofs.lemmas.Bool.Decides.{nat_tests}
use Rattle.zone_spec.specs.declared.Words.{Words}
use Rattle.zone_spec.specs.Told.{last_items}
use Rattle.blk_spec.specs.declared.BlkLayout.{BlkLayout}
use Rattle.blk_spec.specs.declared.BlkZone.{BlkZone}
use Rattle.blk_spec.specs.declared.BlkWords.{BlkWords}
use Rattle.blk_spec.specs.Layout.{capacity}
use Rattle.blk_spec.specs.Writes.{after_write, after_writes, first_bytes}
use Rattle.blk_spec.specs.Rings.{header_write, empty_words, append_writes, kept_writes}
use Rattle.blk_spec.specs.Reading.{zone_bytes, header_words, is_valid, ring_log, saved_ring}
use Rattle.blk_spec.specs.States.{BlkState, loaded}
use Rattle.blk_spec.specs.Session.{Load, session_after, cause_of}
use Rattle.blk_laws.specs.Standing.{LiesIn, StandsFor, header_with, listed}
use Rattle.blk_laws.proofs.Zones.{no-writes, length-zone, words-written, header-zone, data-zone, header-stays}
use Rattle.blk_laws.proofs.Zones.{data-stays, first-only}

pub start-within : (z : BlkZone) (words : BlkWords) (store told : List ℕ) → StandsFor z words store told
    → words.start ≤ words.size
start-within z words store told s = by-size (words.size == capacity z) refl
  where
    by-size : (b : Bool) → (words.size == capacity z) ≡ b → words.start ≤ words.size
    by-size true e = let full : words.size ≡ capacity z = grind (arith, nat_tests) in omega (arith, s.start)
    by-size false e = let less : words.size < capacity z = grind (arith, nat_tests, s.size) in
        omega (arith, s.plain less)

pub length-told : (z : BlkZone) (words : BlkWords) (store told : List ℕ) → LiesIn z store
    → StandsFor z words store told → length told ≡ words.size
length-told z words store told l s =
    let back = drop 12 (zone_bytes store z) in
    omega (
      arith,
      ap (length {A = ℕ}) s.log,
      length-append (drop words.start (take words.size back)) (take words.start back),
      length-drop words.start (take words.size back),
      length-take words.size back,
      length-take words.start back,
      length-drop 12 (zone_bytes store z),
      length-zone z store l.inside,
      s.size,
      start-within z words store told s,
    )

valid : (z : BlkZone) (words : BlkWords) → words.size ≤ capacity z → words.start ≤ words.size
    → is_valid z (header_with z words) ≡ true
valid z words a b = and_from _ _ (and_from _ _ (eq-eqb z.sig z.sig refl) (le-leb words.size (capacity z) a))
    (le-leb words.start words.size b)

by-length : (n size : ℕ) (told : List ℕ) → n ≡ size → (if nat_lt 0 size then Some told else None)
    ≡ (if n == 0 then None else Some told)
by-length n size told e = by-test (n == 0) (nat_lt 0 size) (grind (arith, nat_tests))
  where
    by-test : (a b : Bool) → b ≡ not a → (if b then Some told else None) ≡ (if a then None else Some told)
    by-test true b h = rw h refl
    by-test false b h = rw h refl

pub standing-listed : (z : BlkZone) (words : BlkWords) (store told : List ℕ) → LiesIn z store
    → StandsFor z words store told → saved_ring z (zone_bytes store z) ≡ listed told
unfolding saved_ring
standing-listed z words store told l s =
    ap (λ (w : Words). if is_valid z w && nat_lt 0 w.size then Some (ring_log w (drop 12 (zone_bytes store z)))
    else None) s.header
    ∙ ap (λ (b : Bool). if b && nat_lt 0 words.size then Some
    (ring_log (header_with z words) (drop 12 (zone_bytes store z))) else None)
    (valid z words s.size (start-within z words store told s))
    ∙ ap (λ (log : List ℕ). if nat_lt 0 words.size then Some log else None) s.log
    ∙ by-length (length told) words.size told (length-told z words store told l s)

pub erased : (z : BlkZone) (store : List ℕ) → LiesIn z store
    → StandsFor z empty_words (after_writes (header_write z empty_words ∷ []) store) []
unfolding after_writes
erased z store l =
    let zone = header-zone z store empty_words l.inside (omega (arith, l.sized)) in
    record {
      start = omega (arith, l.sized);
      size = omega arith;
      plain = λ less. refl;
      header = ap header_words zone ∙ words-written z.sig empty_words (drop 12 (zone_bytes store z)) l.word
          (omega arith) (omega arith);
      log = refl;
    }

-- a write behind the bytes of a ring that is not full changes nothing of it
write-behind : (z : BlkZone) (words : BlkWords) (store told bytes : List ℕ) → LiesIn z store
    → StandsFor z words store told → words.size < capacity z → 12 + words.start + length bytes ≤ z.size
    → StandsFor z words (after_write store (record { at = z.at + 12 + words.start; bytes = bytes })) told
write-behind z words store told bytes l s less fits =
    let zone = data-zone z store bytes words.start l.inside fits in
    let long : 12 + words.start ≤ length (zone_bytes store z) = omega (arith, length-zone z store l.inside) in
    let plain : words.start ≡ words.size = s.plain less in
    let size-bytes = data-stays (zone_bytes store z) bytes words.start words.size long (omega arith) in
    let start-bytes = data-stays (zone_bytes store z) bytes words.start words.start long (omega arith) in
    record {
      start = s.start;
      size = s.size;
      plain = s.plain;
      header = ap header_words zone ∙ header-stays (zone_bytes store z) bytes (12 + words.start) long (omega arith)
          ∙ s.header;
      log =
          ap (λ (xs : List ℕ). ring_log (header_with z words) (drop 12 xs)) zone
          ∙ ap (λ (xs : List ℕ). drop words.start xs ++ take words.start
          (drop 12 (after_write (zone_bytes store z) (record { at = 12 + words.start; bytes = bytes })))) size-bytes
          ∙ ap (λ (xs : List ℕ). drop words.start (take words.size (drop 12 (zone_bytes store z))) ++ xs) start-bytes
          ∙ s.log;
    }

cut-kept : (z : BlkZone) (words : BlkWords) (store told bytes : List ℕ) (k : ℕ) → LiesIn z store
    → StandsFor z words store told → words.size < capacity z
    → k ≤ min (length bytes) (capacity z - words.start) → StandsFor z words
    (after_writes (first_bytes k (kept_writes z words bytes)) store) told
unfolding kept_writes
cut-kept z words store told bytes k l s less cut =
    let m : ℕ = min (length bytes) (capacity z - words.start) in
    let front : List ℕ = take (min (length bytes) (capacity z - words.start)) bytes in
    let long : length front ≡ min (length bytes) (capacity z - words.start) =
    omega (arith, length-take (min (length bytes) (capacity z - words.start)) bytes) in
    subst (λ (after : List ℕ). StandsFor z words after told)
    (sym (first-only k (z.at + 12 + words.start) front _ store (omega arith)))
    (write-behind z words store told (take k front) l s less (omega (arith, length-take k front, s.start)))

pub cut-append : (z : BlkZone) (words : BlkWords) (store told payload : List ℕ) (k : ℕ) → LiesIn z store
    → StandsFor z words store told → words.size < capacity z
    → k ≤ min (length (last_items (capacity z) payload)) (capacity z - words.start)
    → StandsFor z words (after_writes (first_bytes k (append_writes z words payload)) store) told
unfolding append_writes
cut-append z words store told payload k l s less cut =
    by-payload (length payload == 0) (cut-kept z words store told (last_items (capacity z) payload) k l s less cut)
  where
    by-payload : (b : Bool) → StandsFor z words (after_writes
        (first_bytes k (kept_writes z words (last_items (capacity z) payload))) store) told
        → StandsFor z words (after_writes (first_bytes k (if b then [] else kept_writes z words
        (last_items (capacity z) payload))) store) told
    by-payload true h = subst (λ (after : List ℕ). StandsFor z words after told) (sym (no-writes k store)) s
    by-payload false h = h

pub loading : (l : BlkLayout) (store : List ℕ) (blk : Option BlkState) → IfSome blk (λ (b : BlkState). b.layout ≡ l)
    → (session_after l (record { store = store; blk = blk }) Load).blk ≡ Some (loaded l store)
unfolding session_after cause_of
loading l store None e = refl
loading l store (Some b) e = ap (λ (m : BlkLayout). Some (loaded m store)) e
