-- The header and the blocks of a log are codewords after a boot of zeros and one append
use Rattle.std.proofs.Common.{◌≡◌, ℕ, zero, suc, ◌+◌, ◌-◌, ◌*◌, ◌/◌, ◌<◌, ◌≤◌, ◌==◌, Bool, false, cond, min, ◌%◌, List}
use Rattle.std.proofs.Common.{[], ◌∷◌, ◌++◌, length, map, take, drop, slice_range, refl, sym, ap, ap₂, ◌∙◌, subst}
use Rattle.std.proofs.Common.{arith, inl, inr, IsTrue, take_all, append-nil, mul_comm}
use Rattle.std.specs.List.{AllByRecursion, range_with_len}
use Rattle.std.proofs.lemmas.Bool.{cases_eq}
use Rattle.std.proofs.lemmas.Bool.Decides.{nat_tests}
use Rattle.std.proofs.lemmas.List.{drop_all}
use Rattle.zone_spec.specs.declared.Zone.{Zone}
use Rattle.zone_spec.specs.Zones.{IsValidZone}
use Rattle.code_spec.specs.Code.{is_codeword, parity_of}
use Rattle.zone_spec.specs.Parts.{AreBytes, IsImage, Part, Header, Block, part_at, part_len, part_parity_at, part_bytes}
use Rattle.zone_spec.specs.Parts.{part_word, standing_words}
use Rattle.zone_spec.specs.Stores.{put}
use Rattle.zone_spec.specs.Stages.{Stage, StartWord, SizeWord, Run, ParityOf, stage_stores}
use Rattle.zone_spec.specs.Calls.{append_stages, run_stages, call_stages, call_stores, image_after}
use Rattle.zone_spec.specs.Told.{Append}
use Rattle.ring_laws.proofs.Images.{length-put, put-below, after_stores-byte_stores}
use Rattle.ring_laws.proofs.AppendLaw.{stage_image, all_stages, all_stages-append, length-all_stages}
use Rattle.ring_laws.proofs.PartsLaw.{block_some, HasPart, part_number, part_parity_at-number, part_end, part_fits}
use Rattle.ring_laws.proofs.PartsLaw.{part_short, slice_range-same, slice_range-bytes, SamePart, LeavesParts}
use Rattle.ring_laws.proofs.PartsLaw.{parities_leave, parity-other, parity-bytes, slice_range-put}
use Rattle.ring_laws.proofs.PartWords.{has_parity}
use Rattle.ring_laws.proofs.RunLaw.{cap_within, met_low, met_high, met_order, unmet_high}
use Rattle.ring_laws.proofs.EveryParity.{block_has}
use Rattle.ring_laws.proofs.RingLaw.{image_after-all, last_items-short}
use Rattle.ring_laws.proofs.StoreBytes.{HasBytes, after-bytes, stage_stores-all}

-- a part's word is a codeword
abbrev pub IsClean : Zone → List ℕ → Part → Type 0
IsClean z image p = IsTrue (is_codeword z.parity (part_word z image p))

-- so are the header and the blocks that begin below n
pub record HasCodes (z : Zone) (image : List ℕ) (n : ℕ) : Type 0 where
  pub header : IsClean z image Header
  pub blocks : (b : ℕ) → z.block * b < n → IsClean z image (Block b)

same_clean : {z : Zone} {x y : List ℕ} {p : Part} → SamePart z x y p → IsClean z y p → IsClean z x p
same_clean {z} s h = subst (λ w. IsTrue (is_codeword z.parity w)) (sym s.word) h

module _ (z : Zone) (valid : IsValidZone z) where
  -- a word whose parity was just stored is a codeword
  put_clean : (x : List ℕ) (p : Part) → HasPart z p → length x ≡ z.size → AreBytes x
      → IsClean z (put x (part_parity_at z p) (parity_of z.parity (part_bytes z x p))) p
  unfolding part_bytes part_word
  put_clean x p has len bytes =
      let msg : List ℕ = part_bytes z x p in
      let par : List ℕ = parity_of z.parity msg in
      let made : (length par ≡ z.parity) × AreBytes par × IsTrue (is_codeword z.parity (msg ++ par)) =
      has_parity z.parity msg (slice_range-bytes x (part_at z p) (part_at z p + part_len z p) bytes)
      (part_short z valid (has_parity z.parity) x p) in
      let at : part_parity_at z p ≡ 12 + z.cap + part_number z p * z.parity = part_parity_at-number z p in
      let same : part_bytes z (put x (part_parity_at z p) par) p ≡ msg =
      slice_range-same (put x (part_parity_at z p) par) x _ _ (length-put x (part_parity_at z p) par)
      (λ i h k. put-below x (part_parity_at z p) i par (elim (part_end z p (omega (arith, valid.room)))
      [ inl a ↦ omega arith | inr e ↦ absurd (omega arith) ])) in
      let back : slice_range (put x (part_parity_at z p) par) (part_parity_at z p) (part_parity_at z p + z.parity)
      ≡ par =
      slice_range-put x par (part_parity_at z p) z.parity made.0 (omega (arith, part_fits z p valid has)) in
      let word : part_word z (put x (part_parity_at z p) par) p ≡ msg ++ par = ap₂ (λ u v. u ++ v) same back in
      subst (λ w. IsTrue (is_codeword z.parity w)) (sym word) made.2

  own_clean : (x : List ℕ) (p : Part) → HasPart z p → length x ≡ z.size → AreBytes x
      → IsClean z (stage_image z (ParityOf p) x) p
  unfolding stage_stores
  own_clean x p has len bytes =
      subst (λ y. IsClean z y p)
      (sym (after_stores-byte_stores x (part_parity_at z p) (parity_of z.parity (part_bytes z x p))))
      (put_clean x p has len bytes)

  -- ---- the parities of n blocks

  parities_clean : (n a : ℕ) (x : List ℕ) → a + n ≤ z.blocks → length x ≡ z.size → AreBytes x
      → (b : ℕ) → a ≤ b → b < a + n
      → IsClean z (all_stages z (map (λ k. ParityOf (Block k)) (range_with_len a n)) x) (Block b)
  unfolding all_stages
  parities_clean zero a x fits len bytes b h k = absurd (omega arith)
  parities_clean (suc n) a x fits len bytes b h k =
      let x1 : List ℕ = stage_image z (ParityOf (Block a)) x in
      let x1_len : length x1 ≡ z.size = length-all_stages z (ParityOf (Block a) ∷ []) x ∙ len in
      let x1_bytes : AreBytes x1 = parity-bytes z valid (has_parity z.parity) x (Block a) bytes in
      elim (cases_eq b a) [
        | inl e ↦ (let x2 : List ℕ = all_stages z (map (λ k. ParityOf (Block k)) (range_with_len (a + 1) n)) x1 in
            let rest : LeavesParts z x1 x2 (a + 1) ((a + 1) + n) =
            parities_leave z valid (has_parity z.parity) n (a + 1) x1 (omega arith) x1_len x1_bytes in
            subst (λ c. IsClean z x2 (Block c)) (sym e) (same_clean (rest.others a (omega arith) (inl (omega arith)))
            (own_clean x (Block a) (omega arith) len bytes)))
        | inr ne ↦ parities_clean n (a + 1) x1 (omega arith) x1_len x1_bytes b (omega arith) (omega arith)
      ]

  -- ---- stages that end with the header's parity

  stages_bytes : (gs : List Stage) (x : List ℕ) → AreBytes x → AllByRecursion HasBytes gs → AreBytes (all_stages z gs x)
  unfolding all_stages
  stages_bytes [] x h k = h
  stages_bytes (g ∷ gs) x h k = stages_bytes gs (stage_image z g x)
      (after-bytes x (stage_stores z g x) h (stage_stores-all z valid g x h k.0)) k.1

  last_stage : (gs : List Stage) (g : Stage) (x : List ℕ)
      → all_stages z (gs ++ g ∷ []) x ≡ stage_image z g (all_stages z gs x)
  unfolding all_stages
  last_stage gs g x = all_stages-append z gs (g ∷ []) x

  -- the header is then a codeword
  pub header_clean : (gs : List Stage) (x : List ℕ) → length x ≡ z.size → AreBytes x → AllByRecursion HasBytes gs
      → IsClean z (all_stages z (gs ++ ParityOf Header ∷ []) x) Header
  header_clean gs x len bytes have = subst (λ y. IsClean z y Header) (sym (last_stage gs (ParityOf Header) x))
      (own_clean (all_stages z gs x) Header tt (length-all_stages z gs x ∙ len) (stages_bytes gs x bytes have))

  -- ---- a run from the first place on

  have_parities : (bs : List ℕ) → AllByRecursion HasBytes (map (λ k. ParityOf (Block k)) bs)
  have_parities [] = tt
  have_parities (b ∷ bs) = (tt, have_parities bs)

  run_front : (n m : ℕ) (q : List ℕ) (gs : List Stage) (x : List ℕ)
      → all_stages z (SizeWord n ∷ StartWord m ∷ Run 0 q ∷ gs) x
      ≡ all_stages z gs (all_stages z (SizeWord n ∷ StartWord m ∷ Run 0 q ∷ []) x)
  unfolding all_stages
  run_front n m q gs x = refl

  run_codes : (n m c : ℕ) (cs x : List ℕ) → length (c ∷ cs) ≤ z.cap → length x ≡ z.size → AreBytes x
      → AreBytes (c ∷ cs)
      → HasCodes z (all_stages z ((SizeWord n ∷ StartWord m ∷ run_stages z 0 (c ∷ cs)) ++ ParityOf Header ∷ []) x)
      (length (c ∷ cs))
  run_codes n m c cs x fits len bytes new =
      let q : List ℕ = c ∷ cs in
      let some : 0 < z.block = block_some z valid in
      let a : ℕ = 0 / z.block in
      let e : ℕ = ((0 + length q + z.block) - 1) / z.block in
      let order : a ≤ e = met_order z.block 0 (length q) some in
      let most : e ≤ z.blocks = unmet_high z.block 0 (length q) z.blocks some
      (omega (arith, cap_within z valid, mul_comm z.blocks z.block)) in
      let front : List Stage = SizeWord n ∷ StartWord m ∷ Run 0 q ∷ [] in
      let parities : List Stage = map (λ k. ParityOf (Block k)) (range_with_len a (e - a)) in
      let x1 : List ℕ = all_stages z front x in
      let x1_len : length x1 ≡ z.size = length-all_stages z front x ∙ len in
      let x1_bytes : AreBytes x1 = stages_bytes front x bytes (tt, (tt, (new, tt))) in
      let x2 : List ℕ = all_stages z parities x1 in
      let x2_bytes : AreBytes x2 = stages_bytes parities x1 x1_bytes (have_parities (range_with_len a (e - a))) in
      let gs : List Stage = SizeWord n ∷ StartWord m ∷ Run 0 q ∷ parities in
      let whole : all_stages z (gs ++ ParityOf Header ∷ []) x ≡ stage_image z (ParityOf Header) x2 =
      last_stage gs (ParityOf Header) x ∙ ap (stage_image z (ParityOf Header)) (run_front n m q parities x) in
      record {
        header = header_clean gs x len bytes (tt, (tt, (new, have_parities (range_with_len a (e - a)))));
        blocks = λ b h.
            let has : b < z.blocks = block_has z valid b (omega (arith, fits)) in
            let low : a ≤ b = met_low z.block 0 (length q) b some
            (let k : z.block * (b + 1) ≡ z.block * b + z.block = grind arith in omega (arith, some)) in
            let high : b < e = met_high z.block 0 (length q) b some (omega arith) in
            subst (λ y. IsClean z y (Block b)) (sym whole)
            (same_clean (parity-other z valid (has_parity z.parity) x2 Header (Block b) x2_bytes (omega arith))
            (parities_clean (e - a) a x1 (omega arith) x1_len x1_bytes b low (omega arith)));
      }

  -- ---- an append to an empty ring

  append_is : (c : ℕ) (cs : List ℕ) → length (c ∷ cs) ≤ z.cap
      → append_stages z 0 0 (c ∷ cs)
      ≡ (SizeWord (min z.cap (0 + length (c ∷ cs))) ∷ StartWord ((0 + length (c ∷ cs)) % z.cap)
      ∷ run_stages z 0 (c ∷ cs)) ++ ParityOf Header ∷ []
  append_is c cs fits =
      let q : List ℕ = c ∷ cs in
      let none : (0 == z.cap) ≡ false = (let r : 64 ≤ z.cap = valid.room in grind (arith, nat_tests)) in
      let front : take (z.cap - 0) q ≡ q = take_all (z.cap - 0) q (omega arith) in
      let back : drop (z.cap - 0) q ≡ [] = drop_all (z.cap - 0) q (omega arith) in
      by (0 == z.cap) (take (z.cap - 0) q) (drop (z.cap - 0) q) none front back
    where
      by : (t : Bool) (front back : List ℕ) → t ≡ false → front ≡ c ∷ cs → back ≡ []
          → (cond t [] (SizeWord (min z.cap (0 + length (c ∷ cs))) ∷ [])
          ++ StartWord ((0 + length (c ∷ cs)) % z.cap) ∷ []
          ++ run_stages z 0 front ++ run_stages z 0 back ++ ParityOf Header ∷ [])
          ≡ (SizeWord (min z.cap (0 + length (c ∷ cs))) ∷ StartWord ((0 + length (c ∷ cs)) % z.cap)
          ∷ run_stages z 0 (c ∷ cs)) ++ ParityOf Header ∷ []
      by t front back et ef eb = rw (et, ef, eb) (ap (λ gs. gs ++ ParityOf Header ∷ [])
          (append-nil (SizeWord (min z.cap (0 + length (c ∷ cs))) ∷ StartWord ((0 + length (c ∷ cs)) % z.cap)
          ∷ run_stages z 0 (c ∷ cs))))

  pub append_codes : (image : List ℕ) (c : ℕ) (cs : List ℕ) → length (c ∷ cs) ≤ z.cap → IsImage z image
      → AreBytes (c ∷ cs) → (standing_words z image).start ≡ 0 → (standing_words z image).size ≡ 0
      → HasCodes z (image_after z (Append (c ∷ cs)) image (length (call_stores z (Append (c ∷ cs)) image)))
      (length (c ∷ cs))
  append_codes image c cs fits is new start size =
      let q : List ℕ = c ∷ cs in
      let stages : call_stages z (standing_words z image) (Append q) ≡ append_stages z 0 0 q =
      ap (λ xs. append_stages z (standing_words z image).start (standing_words z image).size xs ++ [])
      (last_items-short z.cap q fits)
      ∙ append-nil (append_stages z (standing_words z image).start (standing_words z image).size q)
      ∙ ap₂ (λ s n. append_stages z s n q) start size in
      let whole : image_after z (Append q) image (length (call_stores z (Append q) image))
      ≡ all_stages z ((SizeWord (min z.cap (0 + length q)) ∷ StartWord ((0 + length q) % z.cap)
      ∷ run_stages z 0 q) ++ ParityOf Header ∷ []) image =
      image_after-all z (Append q) image
      ∙ ap (λ gs. all_stages z gs image) (stages ∙ append_is c cs fits) in
      subst (λ y. HasCodes z y (length q)) (sym whole) (run_codes _ _ c cs image fits is.0 is.1 new)
