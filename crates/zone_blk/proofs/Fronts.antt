-- A zone's header and its log read as the whole zone does
use Rattle.std.proofs.Common.{◌≡◌, ℕ, ◌+◌, ◌-◌, ◌≤◌, ◌<◌, true, false, ◌&&◌, nat_lt, List, length, take, drop, ◌++◌}
use Rattle.std.proofs.Common.{◌⊎◌, Option, Some, None, IfSome, refl, sym, ap, ◌∙◌, arith}
use Rattle.std.proofs.lemmas.List.{take-take, drop-drop, get_or-take}
use Rattle.list_laws.proofs.Slices.{take-drop-take, slice_range-take}
use Rattle.zone_spec.specs.declared.Words.{Words}
use Rattle.blk_spec.specs.declared.BlkZone.{BlkZone}
use Rattle.blk_spec.specs.Reading.{BlkDump, zone_bytes, header_words, is_valid, is_dump, ring_log, saved_ring}
use Rattle.blk_spec.specs.Reading.{dump_seen, listed_dump}
use Rattle.zone_blk.proofs.Readings.{no-zone, no-log, start-within, some-log, no-dump, some-dump, dump-body}

part-same : (n from : ℕ) (z : BlkZone) (bs : List ℕ) → from + n ≤ z.size
    → take n (drop (z.at + from) bs) ≡ take n (drop from (zone_bytes bs z))
part-same n from z bs h =
    ap (take n) (sym (drop-drop from z.at bs)) ∙ sym (take-drop-take n from z.size (drop z.at bs) h)

-- what was read at a place of the store is that part of the zone
pub part-read : (n from : ℕ) (z : BlkZone) (holds : Option (List ℕ)) (into : List ℕ) → from + n ≤ z.size
    → IfSome holds (λ (bs : List ℕ). into ≡ take n (drop (z.at + from) bs))
    → IfSome holds (λ (bs : List ℕ). into ≡ take n (drop from (zone_bytes bs z)))
part-read n from z None into h e = tt
part-read n from z (Some bs) into h e = e ∙ part-same n from z bs h

-- a header's words lie in the zone's first 12 bytes
words-of-front : (n : ℕ) (bytes : List ℕ) → 12 ≤ n → header_words (take n bytes) ≡ header_words bytes
words-of-front n bytes h = rw (
  slice_range-take n 0 4 bytes (omega arith) (omega arith),
  slice_range-take n 4 8 bytes (omega arith) (omega arith),
  slice_range-take n 8 12 bytes (omega arith) (omega arith),
) refl

pub words-read : (n : ℕ) (z : BlkZone) (holds : Option (List ℕ)) (front : List ℕ) (words : Words) → 12 ≤ n
    → words ≡ header_words front → IfSome holds (λ (bs : List ℕ). front ≡ take n (zone_bytes bs z))
    → IfSome holds (λ (bs : List ℕ). words ≡ header_words (zone_bytes bs z))
words-read n z None front words h e f = tt
words-read n z (Some bs) front words h e f = e ∙ ap header_words f ∙ words-of-front n (zone_bytes bs z) h

-- a zone that is too small for a header has no byte
pub small-saved : (z : BlkZone) (holds : Option (List ℕ)) → (z.size ≡ 0) ⊎ (4096 ≤ z.size) → z.size < 12 → 0 < z.sig
    → IfSome holds (λ (bs : List ℕ). None ≡ saved_ring z (zone_bytes bs z))
small-saved z None sized h s = tt
small-saved z (Some bs) sized h s =
    let none : z.size ≡ 0 = omega (arith, sized) in
    no-zone z (zone_bytes bs z) s (ap (λ k. length (take k (drop z.at bs))) none)

-- a ring without a log, and one with this log
pub none-saved : (z : BlkZone) (holds : Option (List ℕ)) (words : Words)
    → IfSome holds (λ (bs : List ℕ). words ≡ header_words (zone_bytes bs z))
    → (is_valid z words && nat_lt 0 words.size) ≡ false
    → IfSome holds (λ (bs : List ℕ). None ≡ saved_ring z (zone_bytes bs z))
none-saved z None words w h = tt
none-saved z (Some bs) words w h = no-log z (zone_bytes bs z) words w h

pub log-saved : (z : BlkZone) (holds : Option (List ℕ)) (words : Words) (log : List ℕ)
    → IfSome holds (λ (bs : List ℕ). words ≡ header_words (zone_bytes bs z))
    → (is_valid z words && nat_lt 0 words.size) ≡ true
    → IfSome holds (λ (bs : List ℕ). log ≡ ring_log words (drop 12 (zone_bytes bs z)))
    → IfSome holds (λ (bs : List ℕ). Some log ≡ saved_ring z (zone_bytes bs z))
log-saved z None words log w h e = tt
log-saved z (Some bs) words log w h e = some-log z (zone_bytes bs z) (drop 12 (zone_bytes bs z)) log words w refl h
    (e ∙ ap (λ (xs : List ℕ). drop words.start (take words.size (drop 12 (zone_bytes bs z))) ++ xs)
    (sym (take-take words.start words.size (drop 12 (zone_bytes bs z)) (start-within z words h))))

-- a dump's header lies in the first 40 bytes of its zone's data
dump-of-front : (words : Words) (xs : List ℕ) → is_dump words (take 40 xs) ≡ is_dump words xs
dump-of-front words xs = rw (
  slice_range-take 40 0 4 xs (omega arith) (omega arith),
  slice_range-take 40 8 16 xs (omega arith) (omega arith),
  slice_range-take 40 16 24 xs (omega arith) (omega arith),
) refl

seen-of-front : (index : ℕ) (words : Words) (xs body : List ℕ) → body ≡ drop 40 (take words.size xs)
    → record (dump_seen index words (take 40 xs)) { body = body } ≡ dump_seen index words xs
seen-of-front index words xs body e = rw (
  slice_range-take 40 8 16 xs (omega arith) (omega arith),
  slice_range-take 40 16 24 xs (omega arith) (omega arith),
  slice_range-take 40 28 32 xs (omega arith) (omega arith),
  slice_range-take 40 32 36 xs (omega arith) (omega arith),
  get_or-take 40 xs 24 0 (omega arith),
  e,
) refl

-- the data that follows a header in a front
content-of-front : (front zone : List ℕ) → front ≡ take 52 zone → take 40 (drop 12 front) ≡ take 40 (drop 12 zone)
content-of-front front zone e =
    ap (λ (xs : List ℕ). take 40 (drop 12 xs)) e ∙ take-drop-take 40 12 52 zone (omega arith)

test-of-front : (z : BlkZone) (words : Words) (front zone : List ℕ) → front ≡ take 52 zone
    → (is_valid z words && is_dump words (take 40 (drop 12 front))) ≡ (is_valid z words && is_dump words (drop 12 zone))
test-of-front z words front zone e =
    ap (λ (xs : List ℕ). is_valid z words && is_dump words xs) (content-of-front front zone e)
    ∙ ap (λ b. is_valid z words && b) (dump-of-front words (drop 12 zone))

-- a zone without a listed dump, and one with this dump
pub none-listed : (index : ℕ) (z : BlkZone) (holds : Option (List ℕ)) (front : List ℕ) (words : Words)
    → words ≡ header_words front → IfSome holds (λ (bs : List ℕ). front ≡ take 52 (zone_bytes bs z))
    → (is_valid z words && is_dump words (take 40 (drop 12 front))) ≡ false
    → IfSome holds (λ (bs : List ℕ). None ≡ listed_dump index z (zone_bytes bs z))
none-listed index z None front words e f h = tt
none-listed index z (Some bs) front words e f h =
    no-dump index z (zone_bytes bs z) (drop 12 (zone_bytes bs z)) words
    (e ∙ ap header_words f ∙ words-of-front 52 (zone_bytes bs z) (omega arith)) refl
    (sym (test-of-front z words front (zone_bytes bs z) f) ∙ h)

pub dump-listed : (index : ℕ) (z : BlkZone) (holds : Option (List ℕ)) (front body : List ℕ) (words : Words)
    (dump : BlkDump) → words ≡ header_words front
    → IfSome holds (λ (bs : List ℕ). front ≡ take 52 (zone_bytes bs z))
    → (is_valid z words && is_dump words (take 40 (drop 12 front))) ≡ true
    → IfSome holds (λ (bs : List ℕ). body ≡ take (words.size - 40) (drop 52 (zone_bytes bs z)))
    → dump ≡ record (dump_seen index words (take 40 (drop 12 front))) { body = body }
    → IfSome holds (λ (bs : List ℕ). Some dump ≡ listed_dump index z (zone_bytes bs z))
dump-listed index z None front body words dump e f h b d = tt
dump-listed index z (Some bs) front body words dump e f h b d =
    let zone : List ℕ = zone_bytes bs z in
    let test : (is_valid z words && is_dump words (drop 12 zone)) ≡ true =
    sym (test-of-front z words front zone f) ∙ h in
    some-dump index z zone (drop 12 zone) words dump
    (e ∙ ap header_words f ∙ words-of-front 52 zone (omega arith)) refl test
    (d ∙ ap (λ (xs : List ℕ). record (dump_seen index words xs) { body = body }) (content-of-front front zone f)
    ∙ seen-of-front index words (drop 12 zone) body (b ∙ ap (take (words.size - 40)) (sym (drop-drop 40 12 zone))
    ∙ dump-body index z words (drop 12 zone) test))
