-- What a write within a zone makes of the zone's header and data
use Rattle.std.proofs.Common.{◌≡◌, ℕ, ◌+◌, ◌-◌, ◌<◌, ◌≤◌, List, [], ◌∷◌, ◌++◌, length, take, drop, slice_range, refl}
use Rattle.std.proofs.Common.{sym, ap, ◌∙◌, ◌^◌, arith, length-append, length-take, length-drop}
use Rattle.std.proofs.lemmas.List.{places, same_lists, take-take, take-append-le, append-nil, drop-take}
use Rattle.std.proofs.lemmas.List.{take-append-drop}
use Rattle.std.proofs.lemmas.Nat.{from_le_bytes-to_le_bytes_4}
use Rattle.std.specs.Int.{from_le_bytes}
use Rattle.std.proofs.Common.{w32}
use Rattle.list_laws.proofs.Slices.{slice_range-take}
use Rattle.zone_spec.specs.declared.Words.{Words}
use Rattle.blk_spec.specs.declared.BlkZone.{BlkZone}
use Rattle.blk_spec.specs.declared.BlkWords.{BlkWords}
use Rattle.blk_spec.specs.Writes.{Write, after_write, after_writes, first_bytes}
use Rattle.blk_spec.specs.Rings.{header_bytes, header_write}
use Rattle.blk_spec.specs.Reading.{zone_bytes, header_words}

pub length-zone : (z : BlkZone) (store : List ℕ) → z.at + z.size ≤ length store → length (zone_bytes store z) ≡ z.size
length-zone z store h = omega (arith, length-take z.size (drop z.at store), length-drop z.at store)

pub length-write : (store : List ℕ) (w : Write) → w.at + length w.bytes ≤ length store
    → length (after_write store w) ≡ length store
length-write store w h =
    omega (
      arith,
      length-append (take w.at store ++ w.bytes) (drop (w.at + length w.bytes) store),
      length-append (take w.at store) w.bytes,
      length-take w.at store,
      length-drop (w.at + length w.bytes) store,
    )

-- a write within a zone is a write on the zone's bytes
pub zone-write : (z : BlkZone) (store bytes : List ℕ) (off : ℕ) → z.at + z.size ≤ length store
    → off + length bytes ≤ z.size
    → zone_bytes (after_write store (record { at = z.at + off; bytes = bytes })) z
    ≡ after_write (zone_bytes store z) (record { at = off; bytes = bytes })
zone-write z store bytes off h k =
    same_lists (zone_bytes (after_write store (record { at = z.at + off; bytes = bytes })) z)
    (after_write (zone_bytes store z) (record { at = off; bytes = bytes }))
    (grind (arith, places)) (λ i d l. grind (arith, places))

same-words : (a b c d e f : ℕ) → a ≡ d → b ≡ e → c ≡ f
    → ◌≡◌ {A = Words} (record { sig = a; start = b; size = c }) (record { sig = d; start = e; size = f })
same-words a b c d e f p q r = cc

-- the words of a header are those of its bytes
pub words-written : (sig : ℕ) (words : BlkWords) (rest : List ℕ) → sig < 2 ^ 32 → words.size < 2 ^ 32
    → words.start < 2 ^ 32
    → header_words (header_bytes sig words ++ rest) ≡ record { sig = sig; start = words.start; size = words.size }
words-written sig words rest a b c =
    same-words _ _ _ sig words.start words.size (from_le_bytes-to_le_bytes_4 sig a)
    (from_le_bytes-to_le_bytes_4 words.start c) (from_le_bytes-to_le_bytes_4 words.size b)

-- a zone behind the write of its header
pub header-zone : (z : BlkZone) (store : List ℕ) (words : BlkWords) → z.at + z.size ≤ length store → 12 ≤ z.size
    → zone_bytes (after_write store (header_write z words)) z ≡ header_bytes z.sig words ++ drop 12 (zone_bytes store z)
header-zone z store words h k =
    let here : z.at ≡ z.at + 0 = omega arith in
    ap (λ (n : ℕ). zone_bytes (after_write store (record { at = n; bytes = header_bytes z.sig words })) z) here
    ∙ zone-write z store (header_bytes z.sig words) 0 h k

-- and behind a write among its data
pub data-zone : (z : BlkZone) (store bytes : List ℕ) (place : ℕ) → z.at + z.size ≤ length store
    → 12 + place + length bytes ≤ z.size
    → zone_bytes (after_write store (record { at = z.at + 12 + place; bytes = bytes })) z
    ≡ after_write (zone_bytes store z) (record { at = 12 + place; bytes = bytes })
data-zone z store bytes place h k =
    let here : z.at + 12 + place ≡ z.at + (12 + place) = omega arith in
    ap (λ (n : ℕ). zone_bytes (after_write store (record { at = n; bytes = bytes })) z) here
    ∙ zone-write z store bytes (12 + place) h k

-- a write leaves what stands before it
before-write : (bytes more : List ℕ) (off n : ℕ) → off ≤ length bytes → n ≤ off
    → take n (after_write bytes (record { at = off; bytes = more })) ≡ take n bytes
before-write bytes more off n h k =
    take-append-le n (take off bytes ++ more) (drop (off + length more) bytes)
    (omega (arith, length-append (take off bytes) more, length-take off bytes))
    ∙ take-append-le n (take off bytes) more (omega (arith, length-take off bytes)) ∙ take-take n off bytes k

pub header-stays : (bytes more : List ℕ) (off : ℕ) → off ≤ length bytes → 12 ≤ off
    → header_words (after_write bytes (record { at = off; bytes = more })) ≡ header_words bytes
header-stays bytes more off h k =
    let word : (a : ℕ) → a + 4 ≤ 12 → slice_range (after_write bytes (record { at = off; bytes = more })) a (a + 4)
    ≡ slice_range bytes a (a + 4) =
    λ a le. sym (slice_range-take 12 a (a + 4) (after_write bytes (record { at = off; bytes = more })) (omega arith) le)
    ∙ ap (λ (xs : List ℕ). slice_range xs a (a + 4)) (before-write bytes more off 12 h k)
    ∙ slice_range-take 12 a (a + 4) bytes (omega arith) le in
    same-words _ _ _ _ _ _ (ap (from_le_bytes w32) (word 0 (omega arith)))
    (ap (from_le_bytes w32) (word 8 (omega arith))) (ap (from_le_bytes w32) (word 4 (omega arith)))

pub data-stays : (bytes more : List ℕ) (place n : ℕ) → 12 + place ≤ length bytes → n ≤ place
    → take n (drop 12 (after_write bytes (record { at = 12 + place; bytes = more }))) ≡ take n (drop 12 bytes)
data-stays bytes more place n h k =
    sym (drop-take 12 n (after_write bytes (record { at = 12 + place; bytes = more })))
    ∙ ap (drop 12) (before-write bytes more (12 + place) (12 + n) h (omega arith)) ∙ drop-take 12 n bytes

-- the first bytes of writes, where they lie within the first of these
pub none-written : (store : List ℕ) (at : ℕ) → after_write store (record { at = at; bytes = [] }) ≡ store
none-written store at = rw append-nil (ap (λ k. take at store ++ drop k store) (omega arith)
    ∙ take-append-drop at store)

pub after-none : (ws : List Write) (store : List ℕ) → after_writes (first_bytes 0 ws) store ≡ store
unfolding after_writes first_bytes
after-none [] store = refl
after-none (w ∷ ws) store =
    ap (after_writes (first_bytes (0 - length w.bytes) ws)) (none-written store w.at)
    ∙ ap (λ k. after_writes (first_bytes k ws) store) (omega arith) ∙ after-none ws store

pub first-only : (k at : ℕ) (bytes : List ℕ) (ws : List Write) (store : List ℕ) → k ≤ length bytes
    → after_writes (first_bytes k (record { at = at; bytes = bytes } ∷ ws)) store
    ≡ after_write store (record { at = at; bytes = take k bytes })
unfolding after_writes first_bytes
first-only k at bytes ws store h =
    let none : k - length bytes ≡ 0 = omega arith in
    ap (λ n. after_writes (first_bytes n ws) (after_write store (record { at = at; bytes = take k bytes }))) none
    ∙ after-none ws (after_write store (record { at = at; bytes = take k bytes }))

pub no-writes : (k : ℕ) (store : List ℕ) → after_writes (first_bytes k []) store ≡ store
unfolding after_writes first_bytes
no-writes k store = refl
