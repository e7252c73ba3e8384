-- A boot leaves each zone in ring form for what it kept, at every parity
use Rattle.std.proofs.Common.{◌≡◌, ℕ, zero, suc, ◌+◌, ◌-◌, ◌*◌, ◌<◌, ◌≤◌, List, [], ◌∷◌, length, take, flat_map, get_or}
use Rattle.std.proofs.Common.{refl, sym, ap, ◌∙◌, subst, arith, inl, inr, Option, Some, None, ◌⊎◌, ext_get_or}
use Rattle.std.proofs.Common.{length-take-le}
use Rattle.std.specs.List.{AllByRecursion, range_with_len}
use Rattle.std.proofs.lemmas.Bool.{cases_eq}
use Rattle.list_laws.proofs.Elements.{AllByRecursion-append}
use Rattle.zone_spec.specs.declared.Zone.{Zone}
use Rattle.zone_spec.specs.declared.State.{State}
use Rattle.zone_spec.specs.declared.State.TheVariants.{Unsigned, Empty, Invalid, Found}
use Rattle.zone_spec.specs.Zones.{IsValidZone}
use Rattle.code_spec.specs.Code.{nearest, IsNear}
use Rattle.zone_spec.specs.Parts.{AreBytes, Part, Header, Block, part_at, part_len, part_bytes, part_word, IsImage}
use Rattle.zone_spec.specs.Parts.{IsPartOf}
use Rattle.zone_spec.specs.PartReadings.{part_reading, words_read}
use Rattle.zone_spec.specs.Reading.{zone_reading, ZoneReading}
use Rattle.zone_spec.specs.Stores.{Store, after_stores}
use Rattle.zone_spec.specs.Ring.{ReadsAsStands}
use Rattle.zone_spec.specs.Boot.{fix_stores, part_fixes, blocks_read, boot_fixes}
use Rattle.code_laws.proofs.Nearest.{nearest-IsNear}
use Rattle.ring_laws.proofs.Images.{length-after_stores}
use Rattle.ring_laws.proofs.PartsLaw.{block_some, slice_range-bytes}
use Rattle.ring_laws.proofs.PartWords.{length-part_bytes, part_bytes-word, reading_near, reading_none, part_word-IsWord}
use Rattle.ring_laws.proofs.PartWords.{bytes-each}
use Rattle.ring_laws.proofs.EveryParity.{part-bytes}
use Rattle.ring_laws.proofs.StoreBytes.{IsStore, all-take, after-bytes, one-byte}
use Rattle.ring_laws.proofs.States.{Says, state_says, reading_words, reading_state, below_count, count_below}
use Rattle.ring_laws.proofs.Fixes.{Fixes, IsFix, Fixed, HasStoreAt, IsMended, fix_stores-all, has_fix, has_left}
use Rattle.ring_laws.proofs.Fixes.{has_right, some_fixed, fixed_there, one_part, fixed_toward, toward_mended}
use Rattle.ring_laws.proofs.Fixes.{length-bytes_most, length-inside, part_byte}

-- ---- the corrections

part_fixes-all : (z : Zone) (image : List ℕ) (part : Part) → IsPartOf z part
    → AllByRecursion (Fixes z image (IsPartOf z)) (part_fixes z image part)
part_fixes-all z image part own =
    let e : part_at z part + 0 ≡ part_at z part = omega arith in
    subst (λ p. AllByRecursion (Fixes z image (IsPartOf z))
    (fix_stores p (part_bytes z image part) (part_reading z image part).bytes)) e
    (fix_stores-all z image (IsPartOf z) part 0 (part_bytes z image part) (part_reading z image part).bytes own
    (omega (arith, length-bytes_most z image part))
    (λ i h. ap (λ n. get_or (part_reading z image part).bytes n 0) (let f : i ≡ 0 + i = omega arith in f)))

block_fixes-all : (z : Zone) (image : List ℕ) (n a : ℕ) → ((b : ℕ) → a ≤ b → b < a + n → IsPartOf z (Block b))
    → AllByRecursion (Fixes z image (IsPartOf z)) (flat_map (λ b. part_fixes z image (Block b)) (range_with_len a n))
block_fixes-all z image zero a h = tt
block_fixes-all z image (suc n) a h =
    AllByRecursion-append (Fixes z image (IsPartOf z)) (part_fixes z image (Block a)) _
    (part_fixes-all z image (Block a) (h a (omega arith) (omega arith)))
    (block_fixes-all z image n (a + 1) (λ b k l. h b (omega arith) (omega arith)))

has_block : (z : Zone) (image : List ℕ) (i n a b : ℕ) → a ≤ b → b < a + n
    → HasStoreAt i (part_fixes z image (Block b)) → HasStoreAt i
    (flat_map (λ b. part_fixes z image (Block b)) (range_with_len a n))
has_block z image i zero a b h k s = absurd (omega arith)
has_block z image i (suc n) a b h k s = elim (cases_eq b a) [
  | inl e ↦ has_left i (part_fixes z image (Block a)) _ (subst (λ c. HasStoreAt i (part_fixes z image (Block c))) e s)
  | inr ne ↦ has_right i (part_fixes z image (Block a)) _
      (has_block z image i n (a + 1) b (omega arith) (omega arith) s)
]

-- the parts that a boot reads
abbrev pub IsRead : Zone → ZoneReading → State → Part → Type 0
IsRead z reading s Header = Unit {0}
IsRead z reading Found (Block b) = z.block * b < reading.words.size
IsRead z reading Unsigned (Block b) = ⊥
IsRead z reading Empty (Block b) = ⊥
IsRead z reading Invalid (Block b) = ⊥

length-take-most : (n : ℕ) (xs : List ℕ) → length (take n xs) ≤ length xs
length-take-most zero xs = omega arith
length-take-most (suc n) [] = omega arith
length-take-most (suc n) (x ∷ xs) = omega (arith, length-take-most n xs)

pub length-word : (z : Zone) (x : List ℕ) (part : Part) → length (part_bytes z x part) ≤ length (part_word z x part)
length-word z x part = omega (
  arith,
  ap length (part_bytes-word z x part),
  length-take-most (length (part_bytes z x part)) (part_word z x part),
)

pub length-reading : (z : Zone) (image : List ℕ) (part : Part) → AreBytes image
    → (length (part_reading z image part).bytes ≡ length (part_bytes z image part))
    × AreBytes (part_reading z image part).bytes
unfolding part_bytes
length-reading z image part h = by (nearest z.parity (part_word z image part)) refl
  where
    by : (o : Option (List ℕ)) → nearest z.parity (part_word z image part) ≡ o
        → (length (part_reading z image part).bytes ≡ length (part_bytes z image part))
        × AreBytes (part_reading z image part).bytes
    by None e = rw (reading_none z image part e) (refl, slice_range-bytes image _ _ h)
    by (Some c) e =
        let near : IsNear z.parity (part_word z image part) c =
        nearest-IsNear z.parity (part_word z image part) c (part_word-IsWord z image part h) e in
        rw (reading_near z image part c e) (
          length-take-le (length (part_bytes z image part)) c (omega (arith, near.word.0, length-word z image part)),
          (part-bytes (length (part_bytes z image part)) c (bytes-each c near.word.1)).0,
        )

module _ (z : Zone) (valid : IsValidZone z) (image : List ℕ) (im : IsImage z image) where
  abbrev pub reading : ZoneReading
  reading = zone_reading z image

  pub says_reading : Says z (words_read z image) reading.state
  says_reading = subst (Says z (words_read z image)) (sym (reading_state z image)) (state_says z (words_read z image))

  blocks-all : (s : State) → Says z reading.words s → AllByRecursion (Fixes z image (IsPartOf z))
      (flat_map (λ b. part_fixes z image (Block b)) (blocks_read z reading s))
  blocks-all Found says = block_fixes-all z image _ 0 (λ b h k. let l : z.block * b
      < reading.words.size = below_count z.block reading.words.size b (block_some z valid) (omega arith) in
      omega (arith, says.1))
  blocks-all Unsigned says = tt
  blocks-all Empty says = tt
  blocks-all Invalid says = tt

  pub boot_fixes-all : AllByRecursion (Fixes z image (IsPartOf z)) (boot_fixes z image)
  unfolding boot_fixes
  boot_fixes-all =
      AllByRecursion-append (Fixes z image (IsPartOf z)) (part_fixes z image Header) _
      (part_fixes-all z image Header tt)
      (blocks-all reading.state (subst (λ w. Says z w reading.state) (sym (reading_words z image)) says_reading))

  pub fixes-stores : (ss : List Store) → AllByRecursion (Fixes z image (IsPartOf z)) ss → AllByRecursion IsStore ss
  fixes-stores [] h = tt
  fixes-stores (s ∷ ss) h = (
    subst AreBytes (sym h.0.3) (one-byte h.0.1 (rw h.0.4.byte ((length-reading z image h.0.0 im.1).1 _))),
    fixes-stores ss h.1,
  )

  -- an image after the first k corrections
  pub fixed_image : (k : ℕ) → IsImage z (after_stores image (take k (boot_fixes z image)))
  fixed_image k = (
    length-after_stores image (take k (boot_fixes z image)) ∙ im.0,
    after-bytes image (take k (boot_fixes z image)) im.1
        (all-take IsStore k (boot_fixes z image) (fixes-stores (boot_fixes z image) boot_fixes-all)),
  )

  pub fixed_mended : (k : ℕ) (part : Part) → IsMended z image (after_stores image (take k (boot_fixes z image))) part
  fixed_mended k part =
      let y : List ℕ = after_stores image (take k (boot_fixes z image)) in
      let l : length y ≡ length image = length-after_stores image (take k (boot_fixes z image)) in
      toward_mended z image y part valid l im.1 (fixed_image k).1
      (fixed_toward z (IsPartOf z) image y part valid l
      (λ i. some_fixed z image (IsPartOf z) (take k (boot_fixes z image)) image i
      (all-take (Fixes z image (IsPartOf z)) k (boot_fixes z image) boot_fixes-all) (inl refl)))

  -- ---- all corrections
  unfoldable pub booted_bytes : List ℕ
  booted_bytes = after_stores image (boot_fixes z image)

  length-booted : length booted_bytes ≡ length image
  unfolding booted_bytes
  length-booted = length-after_stores image (boot_fixes z image)

  pub booted_image : IsImage z booted_bytes
  unfolding booted_bytes
  booted_image = (
    length-booted ∙ im.0,
    after-bytes image (boot_fixes z image) im.1
        (fixes-stores (boot_fixes z image) boot_fixes-all),
  )

  booted_each : (i : ℕ) → (get_or booted_bytes i 0 ≡ get_or image i 0) ⊎ Fixed z image (IsPartOf z) i
      (get_or booted_bytes i 0)
  unfolding booted_bytes
  booted_each i = some_fixed z image (IsPartOf z) (boot_fixes z image) image i boot_fixes-all (inl refl)

  pub booted_mended : (part : Part) → IsMended z image booted_bytes part
  booted_mended part = toward_mended z image booted_bytes part valid length-booted im.1 booted_image.1
      (fixed_toward z (IsPartOf z) image booted_bytes part valid length-booted booted_each)

  has_read : (part : Part) (i : ℕ) → IsRead z reading reading.state part → HasStoreAt i (part_fixes z image part)
      → HasStoreAt i (boot_fixes z image)
  unfolding boot_fixes
  has_read Header i own h = has_left i (part_fixes z image Header) _ h
  has_read (Block b) i own h = has_right i (part_fixes z image Header) _ (by reading.state own)
    where
      by : (s : State) → IsRead z reading s (Block b) → HasStoreAt i
          (flat_map (λ b. part_fixes z image (Block b)) (blocks_read z reading s))
      by Found own = has_block z image i _ 0 b (omega arith)
          (let l = count_below z.block reading.words.size b (block_some z valid) own in omega (arith, l)) h
      by Unsigned own = absurd own
      by Empty own = absurd own
      by Invalid own = absurd own

  -- each part that was read stands as it reads
  pub stands_as_read : (part : Part) → IsRead z reading reading.state part
      → part_bytes z booted_bytes part ≡ (part_reading z image part).bytes
  unfolding booted_bytes
  stands_as_read part own =
      let n : length (part_bytes z booted_bytes part) ≡ length (part_bytes z image part) =
      length-part_bytes z booted_bytes image part length-booted in
      ext_get_or 0 (part_bytes z booted_bytes part) (part_reading z image part).bytes
      (n ∙ sym (length-reading z image part im.1).0)
      (λ i h.
      let short : i < part_len z part = omega (arith, length-bytes_most z booted_bytes part) in
      let old : get_or (part_bytes z image part) i 0 ≡ get_or image (part_at z part + i) 0 =
      part_byte z image part i short in
      let new : get_or (part_bytes z booted_bytes part) i 0 ≡ get_or booted_bytes (part_at z part + i) 0 =
      part_byte z booted_bytes part i short in
      let by_fix : Fixed z image (IsPartOf z) (part_at z part + i) (get_or booted_bytes (part_at z part + i) 0)
      → get_or booted_bytes (part_at z part + i) 0 ≡ get_or (part_reading z image part).bytes i 0 = (λ f.
      let same : f.0 ≡ part = one_part z (part_at z part + i) f.0 part f.2.low f.2.high (omega arith) (omega arith) in
      (subst (λ q. IsFix z image q (part_at z part + i) (get_or booted_bytes (part_at z part + i) 0)) same f.2).byte
      ∙ ap (λ k. get_or (part_reading z image part).bytes k 0)
      (let e : part_at z part + i - part_at z part ≡ i = omega arith in e)) in
      new ∙ elim (cases_eq (get_or (part_bytes z image part) i 0) (get_or (part_reading z image part).bytes i 0)) [
        | inl e ↦ elim (booted_each (part_at z part + i)) [
          | inl kept ↦ kept ∙ sym old ∙ e
          | inr f ↦ by_fix f
        ]
        | inr ne ↦ by_fix (fixed_there z image (IsPartOf z) (boot_fixes z image) image (part_at z part + i)
            (inside image part i (omega (arith, n)))
            boot_fixes-all
            (has_read part (part_at z part + i) own (has_fix (part_at z part) i (part_bytes z image part)
            (part_reading z image part).bytes (omega (arith, n))
            (omega (arith, n, (length-reading z image part im.1).0)) ne)))
      ])
    where
      inside : (x : List ℕ) (part : Part) (i : ℕ) → i < length (part_bytes z x part) → part_at z part + i < length x
      inside x part i h = (let s : 0 < length (part_bytes z x part) = omega arith in
          omega (arith, length-inside z x part s))

  -- and has no other nearest codeword
  pub read_stands : (part : Part) → IsRead z reading reading.state part → ReadsAsStands z booted_bytes part
  read_stands part own c e =
      sym (reading_near z booted_bytes part c e) ∙ (booted_mended part).reading ∙ sym (stands_as_read part own)
