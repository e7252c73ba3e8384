-- What a run of a part's corrections leaves: the part reads as before, and the other parts stand as before
use Rattle.std.proofs.Common.{◌≡◌, ℕ, zero, suc, ◌+◌, ◌<◌, ◌≤◌, ◌⊎◌, List, [], ◌∷◌, ◌++◌, length, take, drop, get_or}
use Rattle.std.proofs.Common.{flat_map, refl, sym, ap, ap₂, ◌∙◌, subst, arith, inl, inr, length-take, length-drop}
use Rattle.std.proofs.Common.{get_or-drop, ext_get_or}
use Rattle.std.specs.List.{AllByRecursion, range_with_len}
use Rattle.zone_spec.specs.declared.Zone.{Zone}
use Rattle.zone_spec.specs.Zones.{IsValidZone}
use Rattle.zone_spec.specs.Parts.{AreBytes, Part, Block, part_at, part_len, part_bytes, IsImage}
use Rattle.zone_spec.specs.PartReadings.{part_reading}
use Rattle.zone_spec.specs.Stores.{Store, after_stores, byte_stores}
use Rattle.zone_spec.specs.Boot.{fix_stores, part_fixes}
use Rattle.ring_laws.proofs.Images.{length-after_stores, after_stores-byte_stores, put-above}
use Rattle.ring_laws.proofs.PartsLaw.{SamePart, SamePart-places}
use Rattle.ring_laws.proofs.PartWords.{length-part_bytes}
use Rattle.ring_laws.proofs.BootLaw.{length-reading}
use Rattle.ring_laws.proofs.StoreBytes.{IsStore, after-bytes, all-take, one-byte}
use Rattle.ring_laws.proofs.Fixes.{Fixes, Fixed, IsMended, fix_stores-all, some_fixed, one_part, below_parity}
use Rattle.ring_laws.proofs.Fixes.{fixed_toward, toward_mended, length-bytes_most, part_byte}
use Rattle.zone_boot.specs.Handed.{IsRun}
use Rattle.zone_boot.specs.Left.{part_left, blocks_left}

pub byte-take : (m p : ℕ) (bs : List ℕ) → take m (byte_stores p bs) ≡ byte_stores p (take m bs)
unfolding byte_stores
byte-take zero p bs = refl
byte-take (suc m) p [] = refl
byte-take (suc m) p (b ∷ bs) = ap (λ (l : List Store). record { place = p; bytes = b ∷ [] } ∷ l)
    (byte-take m (p + 1) bs)

all-left : {A : Type 0} (P : A → Type 0) (xs ys : List A) → AllByRecursion P (xs ++ ys) → AllByRecursion P xs
all-left P [] ys h = tt
all-left P (x ∷ xs) ys h = (h.0, all-left P xs ys h.1)

module _ (z : Zone) (valid : IsValidZone z) (x : List ℕ) (im : IsImage z x) where
  -- the stores of a part's corrections are bytes that it reads
  fixes-stores : (Own : Part → Type 0) (ss : List Store) → AllByRecursion (Fixes z x Own) ss
      → AllByRecursion IsStore ss
  fixes-stores Own [] h = tt
  fixes-stores Own (s ∷ ss) h = (
    subst AreBytes (sym h.0.3) (one-byte h.0.1 (rw h.0.4.byte ((length-reading z x h.0.0 im.1).1 _))),
    fixes-stores Own ss h.1,
  )

  module _ (p : Part) (w e : ℕ) (given : List Store) (inside : w ≤ length (part_bytes z x p))
      (stores : part_left z x p w ≡ given ++ part_left z x p e)
      (run : IsRun (part_at z p + w) (part_at z p + e) given) (m : ℕ) where
    abbrev Own : Part → Type 0
    Own q = q ≡ p

    abbrev pub now : List ℕ
    now = after_stores x (take m given)

    all : AllByRecursion (Fixes z x Own) (take m given)
    unfolding part_left
    all = all-take (Fixes z x Own) m given (all-left (Fixes z x Own) given (part_left z x p e)
        (subst (λ (l : List Store). AllByRecursion (Fixes z x Own) l) stores
        (fix_stores-all z x Own p w (drop w (part_bytes z x p)) (drop w (part_reading z x p).bytes) refl
        (omega (arith, length-drop w (part_bytes z x p), length-bytes_most z x p, inside))
        (λ i h. get_or-drop w (part_reading z x p).bytes i 0))))

    long : length now ≡ length x
    long = length-after_stores x (take m given)

    pub run-image : IsImage z now
    run-image = (long ∙ im.0, after-bytes x (take m given) im.1 (fixes-stores Own (take m given) all))

    each : (i : ℕ) → (get_or now i 0 ≡ get_or x i 0) ⊎ Fixed z x Own i (get_or now i 0)
    each i = some_fixed z x Own (take m given) x i all (inl refl)

    mended : (q : Part) → IsMended z x now q
    mended q = toward_mended z x now q valid long im.1 run-image.1 (fixed_toward z Own x now q valid long each)

    -- every part reads as before
    pub run-reads : (q : Part) → (part_reading z now q).bytes ≡ (part_reading z x q).bytes
    run-reads q = (mended q).reading

    -- from the run's end on the part's bytes stand as before
    behind : drop e (part_bytes z now p) ≡ drop e (part_bytes z x p)
    behind = ext_get_or 0 (drop e (part_bytes z now p)) (drop e (part_bytes z x p))
        (omega (arith, length-drop e (part_bytes z now p), length-drop e (part_bytes z x p), same))
        (λ i h. let l : e + i < part_len z p = omega (
          arith,
          h,
          length-drop e (part_bytes z now p),
          length-bytes_most z now p,
        ) in
        get_or-drop e (part_bytes z now p) i 0 ∙ part_byte z now p (e + i) l
        ∙ ap (λ (ss : List Store). get_or (after_stores x ss) (part_at z p + (e + i)) 0)
        (ap (λ (ss : List Store). take m ss) run.are ∙ byte-take m run.place run.bytes)
        ∙ ap (λ (y : List ℕ). get_or y (part_at z p + (e + i)) 0)
        (after_stores-byte_stores x run.place (take m run.bytes))
        ∙ put-above x run.place (part_at z p + (e + i)) (take m run.bytes)
        (let b = run.high in omega (arith, b, length-take m run.bytes))
        ∙ sym (part_byte z x p (e + i) l) ∙ sym (get_or-drop e (part_bytes z x p) i 0))
      where
        same : length (part_bytes z now p) ≡ length (part_bytes z x p)
        same = length-part_bytes z now x p long

    pub run-left : part_left z now p e ≡ part_left z x p e
    unfolding part_left
    run-left = ap₂ (λ (bs cs : List ℕ). fix_stores (part_at z p + e) bs (drop e cs)) behind (run-reads p)

    -- a part that is another one
    other : (q : Part) → (q ≡ p → ⊥) → SamePart z now x q
    other q ne = SamePart-places z now x q long
        (λ i a b. elim (each i) [
          | inl s ↦ s
          | inr f ↦ absurd (ne (one_part z i q f.0 a b f.2.low f.2.high ∙ f.1))
        ])
        (λ i a b. elim (each i) [
          | inl s ↦ s
          | inr f ↦ absurd (below_parity z i f.0 q (let r = valid.room in omega (arith, r)) f.2.high f.2.low a)
        ])

    pub other-fixes : (q : Part) → (q ≡ p → ⊥) → part_fixes z now q ≡ part_fixes z x q
    other-fixes q ne = ap₂ (λ (bs cs : List ℕ). fix_stores (part_at z q) bs cs) (other q ne).bytes (run-reads q)

    pub other-left : (q : Part) (v : ℕ) → (q ≡ p → ⊥) → part_left z now q v ≡ part_left z x q v
    unfolding part_left
    other-left q v ne = ap₂ (λ (bs cs : List ℕ). fix_stores (part_at z q + v) (drop v bs) (drop v cs))
        (other q ne).bytes (run-reads q)

    pub others-fixes : (n a : ℕ) → ((b : ℕ) → a ≤ b → Block b ≡ p → ⊥)
        → flat_map (λ b. part_fixes z now (Block b)) (range_with_len a n)
        ≡ flat_map (λ b. part_fixes z x (Block b)) (range_with_len a n)
    others-fixes zero a h = refl
    others-fixes (suc n) a h = ap₂ (λ (u v : List Store). u ++ v) (other-fixes (Block a) (h a (omega arith)))
        (others-fixes n (a + 1) (λ b l. h b (omega arith)))

    pub others-left : (v n a : ℕ) → ((b : ℕ) → a ≤ b → Block b ≡ p → ⊥)
        → blocks_left z now v (range_with_len a n) ≡ blocks_left z x v (range_with_len a n)
    unfolding blocks_left
    others-left v zero a h = refl
    others-left v (suc n) a h = ap₂ (λ (u v : List Store). u ++ v) (other-left (Block a) v (h a (omega arith)))
        (others-fixes n (a + 1) (λ b l. h b (omega arith)))
