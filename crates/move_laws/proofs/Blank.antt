-- A zone of zeros after a boot
use Rattle.std.proofs.Common.{◌≡◌, ℕ, zero, suc, ◌+◌, ◌-◌, ◌≤◌, ◌==◌, Bool, true, false, cond, not, List, [], ◌∷◌, ◌++◌}
use Rattle.std.proofs.Common.{length, take, drop, flat_map, get_or, slice_range, replicate, refl, sym, ap, ap₂, ◌∙◌}
use Rattle.std.proofs.Common.{subst, arith, inl, inr, eq-eqb, length-take, get_or-take, get_or-drop}
use Rattle.std.proofs.lemmas.Bool.{cases_lt}
use Rattle.std.proofs.lemmas.List.{get_or_append_left, get_or-append_right, length-replicate, get_or_past}
use Rattle.zone_spec.specs.declared.Zone.{Zone}
use Rattle.zone_spec.specs.declared.params.ByteOrder.{ByteOrder}
use Rattle.zone_spec.specs.declared.params.ByteOrder.TheVariants.{Little, Big}
use Rattle.zone_spec.specs.WordBytes.{turned}
use Rattle.zone_spec.specs.declared.Words.{Words}
use Rattle.zone_spec.specs.declared.State.{State}
use Rattle.zone_spec.specs.declared.State.TheVariants.{Unsigned, Empty, Invalid, Found}
use Rattle.zone_spec.specs.Zones.{IsValidZone}
use Rattle.zone_spec.specs.Parts.{AreBytes, Header, Block, part_at, part_len, part_parity_at, part_bytes, part_word}
use Rattle.zone_spec.specs.Parts.{words_in, IsImage}
use Rattle.zone_spec.specs.PartReadings.{words_read, part_reading}
use Rattle.zone_spec.specs.Reading.{zone_reading, reading_in, state_of}
use Rattle.zone_spec.specs.Stores.{Store, after_stores}
use Rattle.zone_spec.specs.Stages.{SigWord, StartWord, SizeWord, stores_in_turn}
use Rattle.zone_spec.specs.Calls.{erase_stages}
use Rattle.zone_spec.specs.Boot.{fix_stores, part_fixes, keeps, blocks_read, boot_fixes, signing, boot_erasure}
use Rattle.zone_spec.specs.Boot.{boot_stores, told_by_boot}
use Rattle.machine_spec.specs.Zones.{zone_bytes}
use Rattle.code_laws.proofs.Parity.{codeword_of}
use Rattle.code_laws.proofs.Steps.{zeros_codeword}
use Rattle.ring_laws.proofs.AppendLaw.{all_stages, after_stores-stores_in_turn}
use Rattle.ring_laws.proofs.PartsLaw.{nearest-codeword}
use Rattle.ring_laws.proofs.PartWords.{reading_near, part_bytes-word}
use Rattle.ring_laws.proofs.States.{reading_is, reading_state}
use Rattle.machine_laws.proofs.Zones.{zone_image, booted-sound}
use Rattle.machine_spec.specs.Boot.{booted_zone}
use Rattle.move_laws.specs.Moves.{BlankZoneIsToldNothing}
use Rattle.move_laws.proofs.Codes.{IsClean, HasCodes, header_clean}

-- ---- zeros

abbrev pub AreZeros : List ℕ → Type 0
AreZeros xs = (k : ℕ) → get_or xs k 0 ≡ 0

pub zeros : (n : ℕ) → AreZeros (replicate n 0)
zeros zero zero = refl
zeros zero (suc k) = refl
zeros (suc n) zero = refl
zeros (suc n) (suc k) = zeros n k

zeros_slice : (xs : List ℕ) (a b : ℕ) → AreZeros xs → AreZeros (slice_range xs a b)
zeros_slice xs a b h i = elim (cases_lt i (b - a)) [
  | inl l ↦ rw (get_or-take (b - a) (drop a xs) i 0 l, get_or-drop a xs i 0) (h (a + i))
  | inr g ↦ get_or_past (slice_range xs a b) i 0 (omega (arith, length-take (b - a) (drop a xs)))
]

zeros_join : (xs ys : List ℕ) → AreZeros xs → AreZeros ys → AreZeros (xs ++ ys)
zeros_join xs ys h k i = elim (cases_lt i (length xs)) [
  | inl l ↦ rw (get_or_append_left xs ys 0 i l) (h i)
  | inr g ↦ rw (get_or-append_right xs ys (length xs) i 0 refl g) (k (i - length xs))
]

pub zeros_bytes : (xs : List ℕ) → AreZeros xs → AreBytes xs
zeros_bytes xs h i = omega (arith, h i)

zeros_take : (n : ℕ) (xs : List ℕ) → n ≤ length xs → AreZeros xs → take n xs ≡ replicate n 0
zeros_take zero xs l h = refl
zeros_take (suc n) [] l h = absurd (omega arith)
zeros_take (suc n) (x ∷ xs) l h = ap₂ (λ y ys. y ∷ ys) (h 0) (zeros_take n xs (omega arith) (λ k. h (suc k)))

-- ---- its header

fix_same : (place : ℕ) (xs : List ℕ) → fix_stores place xs xs ≡ []
unfolding fix_stores
fix_same place [] = refl
fix_same place (x ∷ xs) = rw (eq-eqb x x refl) (fix_same (place + 1) xs)

abbrev no_words : Words
no_words = record { sig = 0; start = 0; size = 0 }

no_words_in : (order : ByteOrder) → words_in order (replicate 12 0) ≡ no_words
no_words_in Little = refl
no_words_in Big = refl

module _ (z : Zone) (now : List ℕ) (valid : IsValidZone z) (image : IsImage z now) (none : AreZeros now) where
  header_zeros : AreZeros (part_word z now Header)
  unfolding part_word part_bytes
  header_zeros = zeros_join (slice_range now (part_at z Header) (part_at z Header + part_len z Header)) _
      (zeros_slice now (part_at z Header) (part_at z Header + part_len z Header) none)
      (zeros_slice now (part_parity_at z Header) (part_parity_at z Header + z.parity) none)

  header_bytes : part_bytes z now Header ≡ replicate 12 0
  unfolding part_bytes
  header_bytes = zeros_take 12 now (omega (arith, image.0, valid.at_least)) none

  header_code : IsClean z now Header
  header_code = codeword_of z.parity (part_word z now Header)
      (zeros_codeword z.parity (part_word z now Header) (λ k l. header_zeros k))

  header_reads : (part_reading z now Header).bytes ≡ part_bytes z now Header
  header_reads = reading_near z now Header (part_word z now Header)
      (nearest-codeword z.parity (part_word z now Header) header_code) ∙ part_bytes-word z now Header

  blank_words : words_read z now ≡ no_words
  blank_words = ap (words_in z.byte_order) (header_reads ∙ header_bytes) ∙ no_words_in z.byte_order

  no_log : (w : Words) → w ≡ no_words → (reading_in z now w (state_of z w)).log ≡ []
  no_log w e = subst (λ v. (reading_in z now v (state_of z v)).log ≡ []) (sym e) (by (0 == z.sig))
    where
      by : (b : Bool) → (reading_in z now no_words (cond (not b) Unsigned Empty)).log ≡ []
      by true = refl
      by false = refl

  pub blank_told : told_by_boot z now ≡ []
  blank_told = by (keeps z (zone_reading z now))
      (ap (λ r. r.log) (reading_is z now) ∙ no_log (words_read z now) blank_words)
    where
      by : (b : Bool) → (zone_reading z now).log ≡ [] → cond b (zone_reading z now).log [] ≡ []
      by true e = e
      by false e = refl

  -- ---- its header is a codeword after the boot

  no_blocks : blocks_read z (zone_reading z now) (zone_reading z now).state ≡ []
  no_blocks =
      let s : (zone_reading z now).state ≡ state_of z no_words = reading_state z now ∙ ap (state_of z) blank_words in
      ap (blocks_read z (zone_reading z now)) s ∙ by (0 == z.sig)
    where
      by : (b : Bool) → blocks_read z (zone_reading z now) (cond (not b) Unsigned Empty) ≡ []
      by true = refl
      by false = refl

  no_fixes : boot_fixes z now ≡ []
  unfolding boot_fixes
  no_fixes = ap₂ (λ (xs : List Store) (bs : List ℕ). xs ++ flat_map (λ b. part_fixes z now (Block b)) bs)
      (ap (fix_stores 0 (part_bytes z now Header)) header_reads ∙ fix_same 0 (part_bytes z now Header)) no_blocks

  boot_stages : after_stores now (boot_stores z now) ≡ all_stages z (boot_erasure z now) now
  unfolding boot_stores after_stores
  boot_stages = ap (λ fs. after_stores now (fs ++ stores_in_turn z (boot_erasure z now) (after_stores now fs))) no_fixes
      ∙ after_stores-stores_in_turn z (boot_erasure z now) now

  erased_clean : (b : Bool) (s : State)
      → IsClean z (all_stages z (cond b [] (signing z s ++ erase_stages)) now) Header
  unfolding all_stages
  erased_clean true s = header_code
  erased_clean false Unsigned = header_clean z valid (SigWord z.sig ∷ StartWord 0 ∷ SizeWord 0 ∷ []) now image.0 image.1
      (tt, (tt, (tt, tt)))
  erased_clean false Empty = header_clean z valid (StartWord 0 ∷ SizeWord 0 ∷ []) now image.0 image.1 (tt, (tt, tt))
  erased_clean false Invalid = header_clean z valid (StartWord 0 ∷ SizeWord 0 ∷ []) now image.0 image.1 (tt, (tt, tt))
  erased_clean false Found = header_clean z valid (StartWord 0 ∷ SizeWord 0 ∷ []) now image.0 image.1 (tt, (tt, tt))

  pub blank_clean : IsClean z (after_stores now (boot_stores z now)) Header
  unfolding boot_erasure
  blank_clean = subst (λ y. IsClean z y Header) (sym boot_stages)
      (erased_clean (keeps z (zone_reading z now)) (zone_reading z now).state)

-- ---- a zone of zeros in a machine

zone_zeros : (z : Zone) (mem : ℕ) → AreZeros (zone_bytes z (replicate mem 0))
zone_zeros z mem = zeros_slice (replicate mem 0) z.at (z.at + z.size) (zeros mem)

zone_is : (z : Zone) (mem : ℕ) → IsValidZone z → z.at + z.size ≤ mem → IsImage z (zone_bytes z (replicate mem 0))
zone_is z mem valid h = zone_image z valid (replicate mem 0) (omega (arith, h, length-replicate {A = ℕ} mem 0))
    (zeros_bytes (replicate mem 0) (zeros mem))

pub booted_codes : (z : Zone) (mem : ℕ) → IsValidZone z → z.at + z.size ≤ mem
    → HasCodes z (booted_zone (replicate mem 0) z).image 0
booted_codes z mem valid h = record {
  header = blank_clean z (zone_bytes z (replicate mem 0)) valid (zone_is z mem valid h) (zone_zeros z mem);
  blocks = λ b l. absurd (omega arith);
}

pub blank_zone_is_told_nothing : BlankZoneIsToldNothing
blank_zone_is_told_nothing z mem valid h = (
  booted-sound z valid (replicate mem 0) (omega (arith, h, length-replicate {A = ℕ} mem 0))
      (zeros_bytes (replicate mem 0) (zeros mem)),
  refl,
  blank_told z (zone_bytes z (replicate mem 0)) valid (zone_is z mem valid h) (zone_zeros z mem),
)
