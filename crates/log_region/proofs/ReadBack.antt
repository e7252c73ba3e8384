-- The region's zone is a ring that holds what is kept of the log, and so reads it. For the law.
use Rattle.std.proofs.Common.{◌≡◌, ℕ, ◌+◌, ◌-◌, ◌^◌, ◌<◌, ◌≤◌, List, ◌++◌, length, map, take, get_or}
use Rattle.std.proofs.Common.{replicate, Some, refl, subst, sym, ap, ◌∙◌, arith, w32, append_assoc}
use Rattle.std.specs.Int.{to_le_bytes}
use Rattle.std.specs.List.{range_with_len}
use Rattle.std.proofs.lemmas.List.{get_or_append_left, get_or-append_right, length-replicate, length-append}
use Rattle.std.proofs.lemmas.List.{length-drop}
use Rattle.std.proofs.lemmas.List.FromFn.{get_or-map-range_with_len, length-map-range_with_len}
use Rattle.std.proofs.lemmas.Grind.{same_number_lists}
use Rattle.code_spec.specs.Code.{nearest, is_codeword}
use Rattle.zone_spec.specs.declared.Zone.{Zone}
use Rattle.zone_spec.specs.declared.Kind.TheVariants.{Console}
use Rattle.zone_spec.specs.Reading.{log_places}
use Rattle.zone_spec.specs.Numbers.{plain_sig}
use Rattle.zone_spec.specs.Parts.{Part, Header, Block, part_word, part_bytes, words_in, standing_words}
use Rattle.zone_spec.specs.declared.Words.{Words}
use Rattle.zone_spec.specs.declared.params.ByteOrder.TheVariants.{Little}
use Rattle.zone_spec.specs.WordBytes.{turned}
use Rattle.std.proofs.Common.{slice_range}
use Rattle.zone_spec.specs.Ring.{ReadsAsStands, IsRingForm}
use Rattle.ring_laws.specs.Laws.{ReadsTold}
use Rattle.ring_laws.proofs.AppendLaw.{word_of-stored}
use Rattle.ring_laws.proofs.PartWords.{part_bytes-word}
use Rattle.ring_laws.proofs.RingLaw.{open_at}
use Rattle.ring_laws.proofs.Laws.{ring_form_reads_told}
use Rattle.log_region.specs.Regions.{most_kept, kept, size_for, zone_of, region_of, IsReadBack}
use Rattle.log_region.proofs.GivenSizes.{IsGiven, size_given, has_room, zone_valid}

-- without parity each part reads as it stands
plain_stands : (z : Zone) (image : List ℕ) (part : Part) → z.parity ≡ 0 → ReadsAsStands z image part
unfolding nearest is_codeword
plain_stands z image part plain c e =
    let h : nearest 0 (part_word z image part) ≡ Some c =
    ap (λ r. nearest r (part_word z image part)) (sym plain) ∙ e in
    let s : part_word z image part ≡ c = cc in
    ap (take (length (part_bytes z image part))) (sym s) ∙ part_bytes-word z image part

kept_few : (log : List ℕ) → length (kept log) ≤ most_kept
kept_few log = omega (arith, length-drop (length log - most_kept) log)

-- the items of a list, one after another
items : (xs image : List ℕ) (n : ℕ) → length xs ≡ n → ((i : ℕ) → i < n → get_or image (12 + i) 0 ≡ get_or xs i 0)
    → map (λ place. get_or image (12 + place) 0) (range_with_len 0 n) ≡ xs
items xs image n len same =
    same_number_lists _ xs (length-map-range_with_len (λ place. get_or image (12 + place) 0) 0 n ∙ sym len) (λ i h.
    get_or-map-range_with_len (λ place. get_or image (12 + place) 0) 0 n i i 0
    (omega (arith, h, length-map-range_with_len (λ place. get_or image (12 + place) 0) 0 n)) (omega arith)
    ∙ same i (omega (arith, h, length-map-range_with_len (λ place. get_or image (12 + place) 0) 0 n)))

module _ (a b : ℕ) (xs zs : List ℕ) where
  abbrev front : List ℕ
  front = to_le_bytes w32 a ++ (to_le_bytes w32 b ++ (to_le_bytes w32 b ++ (xs ++ zs)))

  sig_byte : (i : ℕ) → i < 4 → get_or front (0 + i) 0 ≡ get_or (to_le_bytes w32 a) i 0
  sig_byte i h = (let e : 0 + i ≡ i = omega arith in ap (λ n. get_or front n 0) e)
      ∙ get_or_append_left (to_le_bytes w32 a) (to_le_bytes w32 b ++ (to_le_bytes w32 b ++ (xs ++ zs))) 0 i h

  start_byte : (i : ℕ) → i < 4 → get_or front (4 + i) 0 ≡ get_or (to_le_bytes w32 b) i 0
  start_byte i h = get_or-append_right (to_le_bytes w32 a) (to_le_bytes w32 b ++ (to_le_bytes w32 b ++ (xs ++ zs))) 4 (4 + i) 0 refl (omega arith)
      ∙ (let e : (4 + i) - 4 ≡ i = omega arith in
      ap (λ n. get_or (to_le_bytes w32 b ++ (to_le_bytes w32 b ++ (xs ++ zs))) n 0) e)
      ∙ get_or_append_left (to_le_bytes w32 b) (to_le_bytes w32 b ++ (xs ++ zs)) 0 i h

  size_byte : (i : ℕ) → i < 4 → get_or front (8 + i) 0 ≡ get_or (to_le_bytes w32 b) i 0
  size_byte i h = get_or-append_right (to_le_bytes w32 a) (to_le_bytes w32 b ++ (to_le_bytes w32 b ++ (xs ++ zs))) 4 (8 + i) 0 refl (omega arith)
      ∙ get_or-append_right (to_le_bytes w32 b) (to_le_bytes w32 b ++ (xs ++ zs)) 4 ((8 + i) - 4) 0 refl (omega arith)
      ∙ (let e : ((8 + i) - 4) - 4 ≡ i = omega arith in
      ap (λ n. get_or (to_le_bytes w32 b ++ (xs ++ zs)) n 0) e)
      ∙ get_or_append_left (to_le_bytes w32 b) (xs ++ zs) 0 i h

  log_byte : (i : ℕ) → i < length xs → get_or front (12 + i) 0 ≡ get_or xs i 0
  log_byte i h = get_or-append_right (to_le_bytes w32 a) (to_le_bytes w32 b ++ (to_le_bytes w32 b ++ (xs ++ zs))) 4 (12 + i) 0 refl (omega arith)
      ∙ get_or-append_right (to_le_bytes w32 b) (to_le_bytes w32 b ++ (xs ++ zs)) 4 ((12 + i) - 4) 0 refl (omega arith)
      ∙ get_or-append_right (to_le_bytes w32 b) (xs ++ zs) 4 (((12 + i) - 4) - 4) 0 refl (omega arith)
      ∙ (let e : (((12 + i) - 4) - 4) - 4 ≡ i = omega arith in ap (λ n. get_or (xs ++ zs) n 0) e)
      ∙ get_or_append_left xs zs 0 i h

  abbrev front_words : Words
  front_words = words_in Little (slice_range front 0 12)

  sig_is : a < 2 ^ 32 → front_words.sig ≡ a
  sig_is h = word_of-stored Little front 0 a (omega arith) h sig_byte

  start_is : b < 2 ^ 32 → front_words.start ≡ b
  start_is h = word_of-stored Little front 4 b (omega arith) h start_byte

  size_is : b < 2 ^ 32 → front_words.size ≡ b
  size_is h = word_of-stored Little front 8 b (omega arith) h size_byte

  pub grouped : to_le_bytes w32 a ++ to_le_bytes w32 b ++ to_le_bytes w32 b ++ xs ++ zs ≡ front
  grouped = append_assoc (to_le_bytes w32 a ++ to_le_bytes w32 b ++ to_le_bytes w32 b) xs zs
      ∙ append_assoc (to_le_bytes w32 a ++ to_le_bytes w32 b) (to_le_bytes w32 b) (xs ++ zs)
      ∙ append_assoc (to_le_bytes w32 a) (to_le_bytes w32 b) (to_le_bytes w32 b ++ (xs ++ zs))

  front_len : length front ≡ 12 + (length xs + length zs)
  front_len =
      let first : length (to_le_bytes w32 a) ≡ 4 = refl in
      let other : length (to_le_bytes w32 b) ≡ 4 = refl in
      omega (
        arith,
        first,
        other,
        length-append (to_le_bytes w32 a) (to_le_bytes w32 b ++ (to_le_bytes w32 b ++ (xs ++ zs))),
        length-append (to_le_bytes w32 b) (to_le_bytes w32 b ++ (xs ++ zs)),
        length-append (to_le_bytes w32 b) (xs ++ zs),
        length-append xs zs,
      )

  -- the zone holds the list
  ring_form : (z : Zone) → z.byte_order ≡ Little → z.parity ≡ 0 → z.sig ≡ a → a < 2 ^ 32 → b < 2 ^ 32 → b < z.cap → length xs ≡ b
      → z.name.kind ≡ Console → IsRingForm z front xs
  ring_form z little plain sig few_a few_b room len kind =
      let same : standing_words z front ≡ front_words = ap (λ order. words_in order (slice_range front 0 12)) little in
      let signature : (standing_words z front).sig ≡ a = ap (λ (w : Words). w.sig) same ∙ sig_is few_a in
      let start : (standing_words z front).start ≡ b = ap (λ (w : Words). w.start) same ∙ start_is few_b in
      let size : (standing_words z front).size ≡ b = ap (λ (w : Words). w.size) same ∙ size_is few_b in record {
        ring = (omega (arith, start, size), omega (arith, size, room));
        signed = signature ∙ sym sig;
        told_length = size ∙ sym len;
        bytes = places (standing_words z front).start (standing_words z front).size start size;
        is_open = open_at z.name.kind (standing_words z front) z.cap (omega (arith, start, room)) (λ h. start ∙ sym size);
        header = plain_stands z front Header plain;
        blocks = λ k h. plain_stands z front (Block k) plain;
      } where
        places : (s n : ℕ) → s ≡ b → n ≡ b → map (λ place. get_or front (12 + place) 0) (log_places s n) ≡ xs
        places s n es en =
            let none : b - b ≡ 0 = omega arith in
            ap (λ m. map (λ place. get_or front (12 + place) 0) (log_places m n)) es
            ∙ ap (λ m. map (λ place. get_or front (12 + place) 0) (log_places b m)) en
            ∙ ap (λ m. map (λ place. get_or front (12 + place) 0) (range_with_len b m ++ range_with_len 0 b)) none
            ∙ items xs front b len (λ i h. log_byte i (omega (arith, h, len)))

pub logs_read : (log : List ℕ) → IsReadBack log
unfolding region_of
logs_read log =
    let n : ℕ = length (kept log) in
    let size : ℕ = size_for n in
    let zeros : List ℕ = replicate (size - (12 + n)) 0 in
    let g : IsGiven size = size_given n in
    let room : 12 + n < size = has_room n (omega (arith, kept_few log)) in
    let same : region_of log ≡ front plain_sig n (kept log) zeros = grouped plain_sig n (kept log) zeros in
    record {
      laid = g.laid;
      size = ap length same ∙ front_len plain_sig n (kept log) zeros
          ∙ (let r : length zeros ≡ size - (12 + n) = length-replicate (size - (12 + n)) 0 in omega (arith, r, room));
      reads = subst (λ image. ReadsTold (zone_of size) image (kept log)) (sym same)
          (ring_form_reads_told (zone_of size) (front plain_sig n (kept log) zeros) (kept log) (zone_valid size g)
          (ring_form plain_sig n (kept log) zeros (zone_of size) refl refl refl (omega arith)
          (omega (arith, kept_few log)) (omega (arith, room)) refl refl));
    }
