-- Wherever a call is stopped, the blocks that it does not touch stand as before it: at every parity
use Rattle.std.proofs.Common.{◌≡◌, ◌≢◌, ℕ, zero, suc, ◌+◌, ◌*◌, ◌<◌, ◌≤◌, ◌⊎◌, List, [], ◌∷◌, ◌++◌, length, take, refl}
use Rattle.std.proofs.Common.{subst, arith, inl, inr, w32, mul-le-mul_right, add-mul}
use Rattle.std.proofs.lemmas.Bool.{cases_lt}
use Rattle.std.specs.List.{AllByRecursion}
use Rattle.zone_spec.specs.declared.Zone.{Zone}
use Rattle.code_spec.specs.Code.{parity_of}
use Rattle.zone_spec.specs.Parts.{Block, part_parity_at, part_bytes, standing_words}
use Rattle.zone_spec.specs.Told.{Call}
use Rattle.zone_spec.specs.Stores.{Store, put, after_stores, byte_stores}
use Rattle.zone_spec.specs.Stages.{Stage, SigWord, StartWord, SizeWord, Run, ParityOf, stage_stores, stores_in_turn}
use Rattle.zone_spec.specs.Calls.{call_stages, call_stores, image_after}
use Rattle.ring_laws.proofs.Images.{length-put, put-below, put-above}
use Rattle.ring_laws.proofs.PartsLaw.{SamePart, SamePart-trans, SamePart-places, part_number, part_parity_at-number}
use Rattle.ring_laws.proofs.PartsLaw.{part_end}
use Rattle.zone_spec.specs.WordBytes.{word_bytes}

-- a stage that does not touch block b: its run lies elsewhere, its parity is another part's
abbrev pub LeavesBlock : Zone → ℕ → Stage → Type 0
LeavesBlock z b (Run place bytes) = (place + length bytes ≤ z.cap)
    × ((z.block * (b + 1) ≤ place) ⊎ (place + length bytes ≤ z.block * b))
LeavesBlock z b (ParityOf part) = part_number z part ≢ b
LeavesBlock z b (SigWord n) = Unit {0}
LeavesBlock z b (StartWord n) = Unit {0}
LeavesBlock z b (SizeWord n) = Unit {0}

-- a store that leaves block b alone in every image
abbrev pub StoreLeaves : Zone → ℕ → Store → Type 0
StoreLeaves z b s = (y : List ℕ) → SamePart z (put y s.place s.bytes) y (Block b)

-- parity bytes are as many as the zone's parity
abbrev pub HasParityLength : ℕ → Type 0
HasParityLength r = (m : List ℕ) → length (parity_of r m) ≤ r

module _ (z : Zone) (b : ℕ) (room : 0 < z.cap) (lengths : HasParityLength z.parity) where
  word_leaves : (at n : ℕ) → at + 4 ≤ 12 → StoreLeaves z b (record { place = at; bytes = word_bytes z.byte_order n })
  word_leaves at n h y = SamePart-places z _ y (Block b) (length-put y at (word_bytes z.byte_order n))
      (λ i k l. put-above y at i (word_bytes z.byte_order n) (omega arith))
      (λ i k l. put-above y at i (word_bytes z.byte_order n) (omega arith))

  run_byte_leaves : (place c : ℕ) → place < z.cap → (z.block * (b + 1) ≤ place) ⊎ (place < z.block * b)
      → StoreLeaves z b (record { place = 12 + place; bytes = c ∷ [] })
  run_byte_leaves place c h side y = SamePart-places z _ y (Block b) (length-put y (12 + place) (c ∷ []))
      (λ i k l. elim side [
        | inl m ↦ put-below y (12 + place) i (c ∷ []) (omega arith)
        | inr m ↦
            put-above y (12 + place) i (c ∷ []) (omega arith)
      ])
      (λ i k l. put-above y (12 + place) i (c ∷ []) (omega arith))

  run_leaves_all : (place : ℕ) (bs : List ℕ) → place + length bs ≤ z.cap
      → (z.block * (b + 1) ≤ place) ⊎ (place + length bs ≤ z.block * b)
      → AllByRecursion (StoreLeaves z b) (byte_stores (12 + place) bs)
  unfolding byte_stores
  run_leaves_all place [] h side = tt
  run_leaves_all place (c ∷ cs) h side = (
    run_byte_leaves place c (omega arith) (elim side [ inl m ↦ inl m | inr m ↦ inr (omega arith) ]),
    (let e : 12 + (place + 1) ≡ (12 + place) + 1 = omega arith in
        subst (λ p. AllByRecursion (StoreLeaves z b) (byte_stores p cs)) e
        (run_leaves_all (place + 1) cs (omega arith) (elim side [
          | inl m ↦ inl (omega arith)
          | inr m ↦
              inr (omega arith)
        ]))),
  )

  parity_byte_leaves : (n j c : ℕ) → n ≢ b → j < z.parity
      → StoreLeaves z b (record { place = (12 + z.cap + n * z.parity) + j; bytes = c ∷ [] })
  parity_byte_leaves n j c ne h y = SamePart-places z _ y (Block b) (length-put y _ (c ∷ []))
      (λ i k l. put-below y _ i (c ∷ []) (elim (part_end z (Block b) room)
      [ inl a ↦ omega arith | inr e ↦ absurd (omega arith) ]))
      (λ i k l. elim (cases_lt n b) [
        | inl a ↦ (let d : n + 1 ≤ b = omega arith in let m : (n + 1) * z.parity
            ≤ b * z.parity = mul-le-mul_right z.parity d in
            put-above y _ i (c ∷ []) (omega (arith, add-mul n 1 z.parity)))
        | inr g ↦ (let d : b + 1 ≤ n = omega arith in let m : (b + 1) * z.parity
            ≤ n * z.parity = mul-le-mul_right z.parity d in
            put-below y _ i (c ∷ []) (omega (arith, add-mul b 1 z.parity)))
      ])

  parity_leaves_all : (n j : ℕ) (bs : List ℕ) → n ≢ b → j + length bs ≤ z.parity
      → AllByRecursion (StoreLeaves z b) (byte_stores ((12 + z.cap + n * z.parity) + j) bs)
  unfolding byte_stores
  parity_leaves_all n j [] ne h = tt
  parity_leaves_all n j (c ∷ cs) ne h = (
    parity_byte_leaves n j c ne (omega arith),
    (let e : (12 + z.cap + n * z.parity) + (j + 1) ≡ ((12 + z.cap + n * z.parity) + j) + 1 = omega arith in
        subst (λ p. AllByRecursion (StoreLeaves z b) (byte_stores p cs)) e
        (parity_leaves_all n (j + 1) cs ne (omega arith))),
  )

  stage_leaves : (g : Stage) (x : List ℕ) → LeavesBlock z b g → AllByRecursion (StoreLeaves z b) (stage_stores z g x)
  unfolding stage_stores
  stage_leaves (SigWord n) x h = (word_leaves 0 n (omega arith), tt)
  stage_leaves (StartWord n) x h = (word_leaves 4 n (omega arith), tt)
  stage_leaves (SizeWord n) x h = (word_leaves 8 n (omega arith), tt)
  stage_leaves (Run place bytes) x h = run_leaves_all place bytes h.0 h.1
  stage_leaves (ParityOf part) x h =
      (let e : (12 + z.cap + part_number z part * z.parity) + 0
      ≡ part_parity_at z part = omega (arith, part_parity_at-number z part) in
      subst (λ p. AllByRecursion (StoreLeaves z b) (byte_stores p (parity_of z.parity (part_bytes z x part)))) e
      (parity_leaves_all (part_number z part) 0 (parity_of z.parity (part_bytes z x part)) h
      (omega (arith, lengths (part_bytes z x part)))))

  all_joined : (xs ys : List Store) → AllByRecursion (StoreLeaves z b) xs → AllByRecursion (StoreLeaves z b) ys
      → AllByRecursion (StoreLeaves z b) (xs ++ ys)
  all_joined [] ys h k = k
  all_joined (x ∷ xs) ys h k = (h.0, all_joined xs ys h.1 k)

  pub stages_leave : (gs : List Stage) (x : List ℕ) → AllByRecursion (LeavesBlock z b) gs
      → AllByRecursion (StoreLeaves z b) (stores_in_turn z gs x)
  unfolding stores_in_turn
  stages_leave [] x h = tt
  stages_leave (g ∷ gs) x h = all_joined _ _ (stage_leaves g x h.0) (stages_leave gs _ h.1)

  pub prefix_leaves : (k : ℕ) (ss : List Store) (x : List ℕ) → AllByRecursion (StoreLeaves z b) ss
      → SamePart z (after_stores x (take k ss)) x (Block b)
  unfolding after_stores
  prefix_leaves zero ss x h = record { bytes = refl; word = refl }
  prefix_leaves (suc k) [] x h = record { bytes = refl; word = refl }
  prefix_leaves (suc k) (s ∷ ss) x h = SamePart-trans (prefix_leaves k ss (put x s.place s.bytes) h.1) (h.0 x)

  -- after any number of its stores
  pub untouched_same : (call : Call) (image : List ℕ) (k : ℕ)
      → AllByRecursion (LeavesBlock z b) (call_stages z (standing_words z image) call)
      → SamePart z (image_after z call image k) image (Block b)
  unfolding call_stores
  untouched_same call image k h = prefix_leaves k _ image
      (stages_leave (call_stages z (standing_words z image) call) image h)
