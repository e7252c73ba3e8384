-- The words of a header's bytes, alone or before their parity
use Rattle.std.proofs.Common.{◌≡◌, ℕ, ◌+◌, ◌<◌, ◌≤◌, List, length, take, get_or, slice_range, sym, ap, ◌∙◌, arith, w32}
use Rattle.std.proofs.Common.{get_or-take, length-append}
use Rattle.list_laws.proofs.Slices.{length-slice_range, get_or-slice_range}
use Rattle.zone_spec.specs.declared.Zone.{Zone}
use Rattle.zone_spec.specs.declared.params.ByteOrder.{ByteOrder}
use Rattle.zone_spec.specs.declared.Words.{Words}
use Rattle.zone_spec.specs.Zones.{IsValidZone}
use Rattle.zone_spec.specs.Parts.{Header, part_bytes, part_word, part_parity_at, words_in, standing_words, IsImage}
use Rattle.ring_laws.proofs.AppendLaw.{word_of-bytes}
use Rattle.ring_laws.proofs.PartsLaw.{part_fits}
use Rattle.ring_laws.proofs.Fixes.{word_left}
use Rattle.zone_spec.specs.WordBytes.{word_of}

pub words_eq : (v w : Words) → v.sig ≡ w.sig → v.start ≡ w.start → v.size ≡ w.size → v ≡ w
words_eq v w a b c =
    (let e : v ≡ record { sig = w.sig; start = v.start; size = v.size } = ap
    (λ s. record { sig = s; start = v.start; size = v.size }) a in e)
    ∙ (let e : record { sig = w.sig; start = v.start; size = v.size }
    ≡ record { sig = w.sig; start = w.start; size = v.size } =
    ap (λ s. record { sig = w.sig; start = s; size = v.size }) b in e)
    ∙ (let e : record { sig = w.sig; start = w.start; size = v.size }
    ≡ w = ap (λ s. record { sig = w.sig; start = w.start; size = s }) c in e)

-- the first twelve bytes make the words
pub words_same : (order : ByteOrder) (xs ys : List ℕ) → ((i : ℕ) → i < 12 → get_or xs i 0 ≡ get_or ys i 0) → words_in order xs ≡ words_in order ys
words_same order xs ys h =
    let each : (a : ℕ) → a + 4 ≤ 12 → word_of order (slice_range xs a (a + 4))
    ≡ word_of order (slice_range ys a (a + 4)) =
    (λ a l. word_of-bytes order _ _ (λ i k. get_or-slice_range xs a (a + 4) i (omega arith) ∙ h (a + i) (omega arith)
    ∙ sym (get_or-slice_range ys a (a + 4) i (omega arith)))) in
    let e0 : (words_in order xs).sig ≡ (words_in order ys).sig = each 0 (omega arith) in
    let e1 : (words_in order xs).start ≡ (words_in order ys).start = each 4 (omega arith) in
    let e2 : (words_in order xs).size ≡ (words_in order ys).size = each 8 (omega arith) in
    words_eq (words_in order xs) (words_in order ys) e0 e1 e2

pub header_length : (z : Zone) (x : List ℕ) → IsValidZone z → IsImage z x
    → (length (part_bytes z x Header) ≡ 12) × (length (part_word z x Header) ≡ 12 + z.parity)
unfolding part_bytes part_word
header_length z x valid im =
    let b : length (slice_range x 0 (0 + 12)) ≡ 12 = length-slice_range x 0 12 (omega (arith, im.0, valid.at_least)) in
    let p : length (slice_range x (part_parity_at z Header) (part_parity_at z Header + z.parity)) ≡ z.parity =
    length-slice_range x (part_parity_at z Header) z.parity (omega (arith, im.0, part_fits z Header valid tt)) in
    (b, length-append (slice_range x 0 (0 + 12)) _ ∙ omega (arith, b, p))

pub header_words : (z : Zone) (x : List ℕ) → IsValidZone z → IsImage z x
    → words_in z.byte_order (part_word z x Header) ≡ standing_words z x
header_words z x valid im =
    words_same z.byte_order _ _ (λ i h. word_left z x Header i (omega (arith, (header_length z x valid im).0))
    ∙ sym (get_or-slice_range x 0 12 i (omega arith)))

pub words_taken : (order : ByteOrder) (xs : List ℕ) (n : ℕ) → n ≡ 12 → words_in order (take n xs) ≡ words_in order xs
words_taken order xs n e = words_same order _ _ (λ i h. get_or-take n xs i 0 (omega arith))

pub front_byte : (x : List ℕ) (i : ℕ) → i < 12 → get_or (slice_range x 0 12) i 0 ≡ get_or x i 0
front_byte x i l = get_or-slice_range x 0 12 i (omega arith)
    ∙ ap (λ n. get_or x n 0) (let e : 0 + i ≡ i = omega arith in e)

pub standing_same : (z : Zone) (x y : List ℕ) → ((i : ℕ) → i < 12 → get_or x i 0 ≡ get_or y i 0)
    → standing_words z x ≡ standing_words z y
standing_same z x y h = words_same z.byte_order _ _ (λ i l. front_byte x i l ∙ h i l ∙ sym (front_byte y i l))
