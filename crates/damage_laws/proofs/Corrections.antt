-- Wherever a boot stops within its corrections the zone reads as before, and as many corrections less
use Rattle.std.proofs.Common.{◌≡◌, ◌≢◌, ℕ, zero, suc, ◌+◌, ◌-◌, ◌*◌, ◌/◌, ◌%◌, ◌<◌, ◌≤◌, Bool, true, false, cond, ◌==◌}
use Rattle.std.proofs.Common.{if◌then◌else◌, List, [], ◌∷◌, ◌++◌, length, take, drop, map, flat_map, get_or, slice_get}
use Rattle.std.proofs.Common.{set, refl, sym, ap, ap₂, ◌∙◌, subst, arith, inl, inr, Option, Some, None, length-take}
use Rattle.std.proofs.Common.{length-drop, length-set, get_or-set_same, get_or-set_other, eq-eqb, get_or-take}
use Rattle.std.specs.Prelude.{sum_by}
use Rattle.std.proofs.lemmas.Bool.{cases_lt, cases_eq}
use Rattle.std.proofs.lemmas.Bool.Decides.{nat_tests}
use Rattle.std.proofs.lemmas.List.{get_or_past, take-append-le}
use Rattle.std.proofs.lemmas.List.Sums.{sum_by-cons}
use Rattle.std.specs.List.{AllByRecursion, range_with_len}
use Rattle.list_laws.proofs.Elements.{AllByRecursion-append}
use Rattle.zone_spec.specs.declared.Zone.{Zone}
use Rattle.zone_spec.specs.declared.Words.{Words}
use Rattle.zone_spec.specs.declared.State.{State}
use Rattle.zone_spec.specs.declared.State.TheVariants.{Unsigned, Empty, Invalid, Found}
use Rattle.zone_spec.specs.Zones.{IsValidZone}
use Rattle.code_spec.specs.Code.{nearest, distance, IsNear}
use Rattle.zone_spec.specs.Parts.{Part, Header, Block, part_at, part_len, part_parity_at, part_bytes, part_word}
use Rattle.zone_spec.specs.Parts.{words_in, IsImage}
use Rattle.zone_spec.specs.PartReadings.{part_reading, reading_by, words_read}
use Rattle.zone_spec.specs.Reading.{ZoneReading, zone_reading, reading_in, state_of, byte_read, log_places}
use Rattle.zone_spec.specs.Stores.{Store, put, after_stores}
use Rattle.zone_spec.specs.Stages.{stores_in_turn}
use Rattle.zone_spec.specs.Boot.{fix_stores, part_fixes, boot_fixes, boot_erasure, boot_stores, blocks_read}
use Rattle.damage_laws.specs.CutErasures.{CorrectionsKeepReading, after_boot_stores}
use Rattle.code_laws.proofs.Nearest.{nearest-IsNear}
use Rattle.ring_laws.proofs.Images.{after_stores-append}
use Rattle.ring_laws.proofs.PartsLaw.{block_some, SamePart, SamePart-places}
use Rattle.ring_laws.proofs.PartWords.{part_word-IsWord, length-part_bytes, length-part_word, reading_near}
use Rattle.ring_laws.proofs.PartWords.{reading_none}
use Rattle.ring_laws.proofs.States.{reading_is, reading_state, reading_words, state_in_reading, words_in_reading}
use Rattle.ring_laws.proofs.States.{below_count, count_below}
use Rattle.ring_laws.proofs.Fixes.{Fixes, IsFix, IsMended, fix_stores-all, one_part, below_parity, word_left}
use Rattle.ring_laws.proofs.Fixes.{word_right, length-bytes_most, put_one, part_byte}
use Rattle.ring_laws.proofs.BootLaw.{IsRead, fixed_mended, fixed_image, length-word}

-- ---- a list of stores at rising places, each changing its byte

-- places from lo on, below hi, each store of one byte other than now's
Rising : List ℕ → ℕ → ℕ → List Store → Type 0
Rising now lo hi [] = lo ≤ hi
Rising now lo hi (s ∷ ss) = (lo ≤ s.place) × ((b : ℕ) × (s.bytes ≡ b ∷ []) × (get_or now s.place 0 ≢ b))
    × Rising now (s.place + 1) hi ss

rising_lower : (now : List ℕ) (lo lo' hi : ℕ) (ss : List Store) → lo ≤ lo' → Rising now lo' hi ss → Rising now lo hi ss
unfolding Rising
rising_lower now lo lo' hi [] h k = omega arith
rising_lower now lo lo' hi (s ∷ ss) h k = (omega (arith, k.0), k.1, k.2)

rising_upper : (now : List ℕ) (lo hi hi' : ℕ) (ss : List Store) → hi ≤ hi' → Rising now lo hi ss → Rising now lo hi' ss
unfolding Rising
rising_upper now lo hi hi' [] h k = omega arith
rising_upper now lo hi hi' (s ∷ ss) h k = (k.0, k.1, rising_upper now (s.place + 1) hi hi' ss h k.2)

rising_join : (now : List ℕ) (lo mid hi : ℕ) (ss ts : List Store) → Rising now lo mid ss → Rising now mid hi ts
    → Rising now lo hi (ss ++ ts)
unfolding Rising
rising_join now lo mid hi [] ts h k = rising_lower now lo mid hi ts h k
rising_join now lo mid hi (s ∷ ss) ts h k = (h.0, h.1, rising_join now (s.place + 1) mid hi ss ts h.2 k)

rising_one : (now : List ℕ) (place hi b c : ℕ) (ss : List Store) → get_or now place 0 ≡ b
    → Rising now (place + 1) hi ss → Rising now place hi
    ((if b == c then [] else record { place = place; bytes = c ∷ [] } ∷ []) ++ ss)
unfolding Rising
rising_one now place hi b c ss e rest = by (b == c) refl
  where
    by : (t : Bool) → (b == c) ≡ t → Rising now place hi
        (cond t [] (record { place = place; bytes = c ∷ [] } ∷ []) ++ ss)
    by true f = rising_lower now place (place + 1) hi ss (omega arith) rest
    by false f = (omega arith, (c, refl, λ same. (let n : b ≢ c = grind (arith, nat_tests) in n (sym e ∙ same))), rest)

rising_fixes : (now : List ℕ) (place : ℕ) (bs cs : List ℕ)
    → ((i : ℕ) → i < length bs → get_or now (place + i) 0 ≡ get_or bs i 0)
    → Rising now place (place + length bs) (fix_stores place bs cs)
unfolding Rising fix_stores
rising_fixes now place [] cs h = omega arith
rising_fixes now place (b ∷ bs) [] h = omega arith
rising_fixes now place (b ∷ bs) (c ∷ cs) h =
    rising_one now place (place + length (b ∷ bs)) b c (fix_stores (place + 1) bs cs)
    (ap (λ n. get_or now n 0) (let m : place ≡ place + 0 = omega arith in m) ∙ h 0 (omega arith))
    (let e : place + 1 + length bs ≡ place + length (b ∷ bs) = omega arith in
    subst (λ n. Rising now (place + 1) n (fix_stores (place + 1) bs cs)) e
    (rising_fixes now (place + 1) bs cs (λ i l. ap (λ n. get_or now n 0)
    (let m : place + 1 + i ≡ place + suc i = omega arith in m) ∙ h (suc i) (omega arith))))

-- at its turn a store's place has the byte that it began with
kept_at : (now : List ℕ) (ss : List Store) (lo hi k : ℕ) (s : Store) (x : List ℕ) → Rising now lo hi ss
    → slice_get ss k ≡ Some s
    → (lo ≤ s.place) × (get_or (after_stores x (take k ss)) s.place 0 ≡ get_or x s.place 0)
    × ((b : ℕ) × (s.bytes ≡ b ∷ []) × (get_or now s.place 0 ≢ b))
unfolding Rising after_stores
kept_at now [] lo hi k s x h e = (let b : Some s ≡ None = sym e in cc)
kept_at now (t ∷ ss) lo hi zero s x h e = (let a : t ≡ s = cc in
    subst (λ (u : Store). (lo ≤ u.place) × (get_or x u.place 0 ≡ get_or x u.place 0)
    × ((b : ℕ) × (u.bytes ≡ b ∷ []) × (get_or now u.place 0 ≢ b))) a (h.0, refl, h.1))
kept_at now (t ∷ ss) lo hi (suc k) s x h e =
    let r = kept_at now ss (t.place + 1) hi k s (put x t.place t.bytes) h.2 e in
    let ne : s.place ≢ t.place = (λ m. omega (arith, r.0, m)) in (
      omega (arith, r.0, h.0),
      r.1 ∙ ap (λ y. get_or y s.place 0) (put_one x t.bytes t.place h.1.0 h.1.1)
          ∙ get_or-set_other x t.place s.place h.1.0 0 ne,
      r.2,
    )

take-next : (xs : List Store) (k : ℕ) (s : Store) → slice_get xs k ≡ Some s → take (suc k) xs ≡ take k xs ++ s ∷ []
take-next [] k s e = cc
take-next (x ∷ xs) zero s e = let same : x ≡ s = cc in ap (λ y. y ∷ []) same
take-next (x ∷ xs) (suc k) s e = ap (λ ys. x ∷ ys) (take-next xs k s e)

get-some : (xs : List Store) (k : ℕ) → k < length xs → (s : Store) × (slice_get xs k ≡ Some s)
get-some [] k h = absurd (omega arith)
get-some (x ∷ xs) zero h = (x, refl)
get-some (x ∷ xs) (suc k) h = get-some xs k (omega arith)

all-get : (P : Store → Type 0) (xs : List Store) (k : ℕ) (s : Store) → AllByRecursion P xs → slice_get xs k ≡ Some s
    → P s
all-get P [] k s h e = (let b : Some s ≡ None = sym e in cc)
all-get P (x ∷ xs) zero s h e = (let same : x ≡ s = cc in subst P same h.0)
all-get P (x ∷ xs) (suc k) s h e = all-get P xs k s h.1 e

-- ---- one place less
differs : ℕ → ℕ → ℕ
differs a b = if a == b then 0 else 1

differs_self : (a b : ℕ) → a ≡ b → differs a b ≡ 0
unfolding differs
differs_self a b e = rw (eq-eqb a b e) refl

differs_other : (a b : ℕ) → a ≢ b → differs a b ≡ 1
unfolding differs
differs_other a b n = (let f : (a == b) ≡ false = grind (arith, nat_tests) in rw f refl)

distance_same : (v w c : List ℕ) → length v ≡ length w → ((m : ℕ) → get_or v m 0 ≡ get_or w m 0)
    → distance v c ≡ distance w c
unfolding distance differs
distance_same [] [] c l h = refl
distance_same [] (w ∷ ws) c l h = absurd (omega arith)
distance_same (v ∷ vs) [] c l h = absurd (omega arith)
distance_same (v ∷ vs) (w ∷ ws) [] l h = refl
distance_same (v ∷ vs) (w ∷ ws) (c ∷ cs) l h = ap₂ (λ x y. x + y) (ap (λ x. differs x c) (h 0))
    (distance_same vs ws cs (omega arith) (λ m. h (suc m)))

distance_step : (v w c : List ℕ) (j : ℕ) → length v ≡ length w → length c ≡ length w
    → ((m : ℕ) → m ≢ j → get_or v m 0 ≡ get_or w m 0) → get_or v j 0 ≡ get_or c j 0 → get_or w j 0 ≢ get_or c j 0
    → j < length w
    → distance v c + 1 ≡ distance w c
unfolding distance differs
distance_step v [] c j l k h e n s = absurd (omega arith)
distance_step [] (w ∷ ws) c j l k h e n s = absurd (omega arith)
distance_step (v ∷ vs) (w ∷ ws) [] j l k h e n s = absurd (omega arith)
distance_step (v ∷ vs) (w ∷ ws) (c ∷ cs) zero l k h e n s =
    omega (
      arith,
      differs_self v c e,
      differs_other w c n,
      distance_same vs ws cs (omega arith) (λ m. h (suc m) (λ f. omega (arith, f))),
    )
distance_step (v ∷ vs) (w ∷ ws) (c ∷ cs) (suc j) l k h e n s =
    let first : v ≡ w = h 0 (λ f. omega (arith, f)) in
    let d : differs v c ≡ differs w c = ap (λ x. differs x c) first in
    omega (
      arith,
      d,
      distance_step vs ws cs j (omega arith) (omega arith)
          (λ m f. h (suc m) (λ g. f (omega (arith, g)))) e n (omega arith),
    )

-- ---- sums over the blocks
sum_same : (f g : ℕ → ℕ) (n a : ℕ) → ((b : ℕ) → a ≤ b → f b ≡ g b)
    → sum_by f (range_with_len a n) ≡ sum_by g (range_with_len a n)
sum_same f g zero a h = refl
sum_same f g (suc n) a h = omega (
  arith,
  sum_by-cons f a (range_with_len (a + 1) n),
  sum_by-cons g a (range_with_len (a + 1) n),
  h a (omega arith),
  sum_same f g n (a + 1) (λ b k. h b (omega arith)),
)

sum_step : (f g : ℕ → ℕ) (n a b : ℕ) → a ≤ b → b < a + n → ((c : ℕ) → c ≢ b → f c ≡ g c) → f b + 1 ≡ g b
    → sum_by f (range_with_len a n) + 1 ≡ sum_by g (range_with_len a n)
sum_step f g zero a b h k same less = absurd (omega arith)
sum_step f g (suc n) a b h k same less = elim (cases_eq a b) [
  | inl e ↦ (let s : f a + 1 ≡ g a = subst (λ c. f c + 1 ≡ g c) (sym e) less in
      omega (
        arith,
        sum_by-cons f a (range_with_len (a + 1) n),
        sum_by-cons g a (range_with_len (a + 1) n),
        s,
        sum_same f g n (a + 1) (λ c l. same c (λ m. omega (arith, m))),
      ))
  | inr ne ↦ omega (
    arith,
    sum_by-cons f a (range_with_len (a + 1) n),
    sum_by-cons g a (range_with_len (a + 1) n),
    same a ne,
    sum_step f g n (a + 1) b (omega arith) (omega arith) same less,
  )
]

-- ---- parts
abbrev corr : Zone → List ℕ → Part → ℕ
corr z x p = (part_reading z x p).corrected

corr_near : (z : Zone) (x : List ℕ) (p : Part) (c : List ℕ) → nearest z.parity (part_word z x p) ≡ Some c
    → corr z x p ≡ distance (part_word z x p) c
unfolding part_reading
corr_near z x p c e = ap (λ o. (reading_by (part_bytes z x p) (part_word z x p) o).corrected) e

corr_same : (z : Zone) (x y : List ℕ) (p : Part) → SamePart z x y p → corr z x p ≡ corr z y p
unfolding part_reading
corr_same z x y p s = ap₂ (λ (b w : List ℕ). (reading_by b w (nearest z.parity w)).corrected) s.bytes s.word

inside_bytes : (z : Zone) (x : List ℕ) (p : Part) (j : ℕ) → j < part_len z p → part_at z p + j < length x
    → j < length (part_bytes z x p)
unfolding part_bytes
inside_bytes z x p j h k = omega (
  arith,
  length-take ((part_at z p + part_len z p) - part_at z p)
      (drop (part_at z p) x),
  length-drop (part_at z p) x,
)

module _ (z : Zone) (valid : IsValidZone z) (now : List ℕ) (im : IsImage z now) where
  abbrev reading : ZoneReading
  reading = zone_reading z now

  abbrev Own : Part → Type 0
  Own p = IsRead z reading reading.state p

  abbrev fixes : List Store
  fixes = boot_fixes z now

  own_fixes : (part : Part) → Own part → AllByRecursion (Fixes z now Own) (part_fixes z now part)
  own_fixes part own =
      let e : part_at z part + 0 ≡ part_at z part = omega arith in
      subst (λ p. AllByRecursion (Fixes z now Own) (fix_stores p (part_bytes z now part)
      (part_reading z now part).bytes)) e
      (fix_stores-all z now Own part 0 (part_bytes z now part) (part_reading z now part).bytes own
      (omega (arith, length-bytes_most z now part))
      (λ i h. ap (λ n. get_or (part_reading z now part).bytes n 0) (let f : i ≡ 0 + i = omega arith in f)))

  own_blocks : (n a : ℕ) → ((b : ℕ) → a ≤ b → b < a + n → Own (Block b))
      → AllByRecursion (Fixes z now Own) (flat_map (λ b. part_fixes z now (Block b)) (range_with_len a n))
  own_blocks zero a h = tt
  own_blocks (suc n) a h = AllByRecursion-append (Fixes z now Own) (part_fixes z now (Block a)) _
      (own_fixes (Block a) (h a (omega arith) (omega arith)))
      (own_blocks n (a + 1) (λ b k l. h b (omega arith) (omega arith)))

  own_read : (s : State) → reading.state ≡ s → AllByRecursion (Fixes z now Own)
      (flat_map (λ b. part_fixes z now (Block b)) (blocks_read z reading s))
  own_read Found e = own_blocks _ 0 (λ b h k. subst (λ s. IsRead z reading s (Block b)) (sym e)
      (below_count z.block reading.words.size b (block_some z valid) (omega arith)))
  own_read Unsigned e = tt
  own_read Empty e = tt
  own_read Invalid e = tt

  own_all : AllByRecursion (Fixes z now Own) fixes
  unfolding boot_fixes
  own_all = AllByRecursion-append (Fixes z now Own) (part_fixes z now Header) _ (own_fixes Header tt)
      (own_read reading.state refl)

  part_rises : (part : Part) → Rising now (part_at z part) (part_at z part + length (part_bytes z now part))
      (part_fixes z now part)
  part_rises part = rising_fixes now (part_at z part) (part_bytes z now part) (part_reading z now part).bytes
      (λ i l. sym (part_byte z now part i (omega (arith, length-bytes_most z now part))))

  blocks_rise : (n a : ℕ) → Rising now (12 + z.block * a) (12 + z.block * (a + n))
      (flat_map (λ b. part_fixes z now (Block b)) (range_with_len a n))
  unfolding Rising
  blocks_rise zero a = (let e : z.block * (a + 0) ≡ z.block * a = grind arith in omega (arith, e))
  blocks_rise (suc n) a =
      let next : z.block * (a + 1) ≡ z.block * a + z.block = grind arith in
      let far : z.block * (a + 1 + n) ≡ z.block * (a + suc n) =
      (let e : a + 1 + n ≡ a + suc n = omega arith in ap (λ m. z.block * m) e) in
      let here : Rising now (12 + z.block * a) (12 + z.block * (a + 1)) (part_fixes z now (Block a)) =
      rising_upper now _ _ _ (part_fixes z now (Block a)) (omega (arith, next, length-bytes_most z now (Block a)))
      (part_rises (Block a)) in
      rising_join now (12 + z.block * a) (12 + z.block * (a + 1)) (12 + z.block * (a + suc n))
      (part_fixes z now (Block a)) _ here
      (subst (λ m. Rising now (12 + z.block * (a + 1)) (12 + m)
      (flat_map (λ b. part_fixes z now (Block b)) (range_with_len (a + 1) n))) far (blocks_rise n (a + 1)))

  fixes_rise : (hi : ℕ) × Rising now 0 hi fixes
  unfolding boot_fixes Rising
  fixes_rise = by reading.state
    where
      head : Rising now 0 12 (part_fixes z now Header)
      head = rising_upper now 0 _ 12 (part_fixes z now Header) (omega (arith, length-bytes_most z now Header))
          (part_rises Header)

      start : 12 ≡ 12 + z.block * 0
      start = (let e : z.block * 0 ≡ 0 = grind arith in omega (arith, e))

      by : (s : State) → (hi : ℕ) × Rising now 0 hi (part_fixes z now Header ++ flat_map
          (λ b. part_fixes z now (Block b)) (blocks_read z reading s))
      by Found = (
        12 + z.block * (0 + ((reading.words.size + z.block - 1) / z.block)),
        rising_join now 0 12 (12 + z.block * (0 + ((reading.words.size + z.block - 1) / z.block)))
            (part_fixes z now Header) (flat_map (λ b. part_fixes z now (Block b))
            (range_with_len 0 ((reading.words.size + z.block - 1) / z.block))) head
            (subst (λ m. Rising now m (12 + z.block * (0 + ((reading.words.size + z.block - 1) / z.block)))
            (flat_map (λ b. part_fixes z now (Block b)) (range_with_len 0
            ((reading.words.size + z.block - 1) / z.block)))) (sym start)
            (blocks_rise ((reading.words.size + z.block - 1) / z.block) 0)),
      )
      by Unsigned = (12, rising_join now 0 12 12 (part_fixes z now Header) [] head (omega arith))
      by Empty = (12, rising_join now 0 12 12 (part_fixes z now Header) [] head (omega arith))
      by Invalid = (12, rising_join now 0 12 12 (part_fixes z now Header) [] head (omega arith))

  -- the word of a part after one byte of it is put
  word_set : (y : List ℕ) (p : Part) (j b m : ℕ) → j < length (part_bytes z y p) → m ≢ j
      → get_or (part_word z (set y (part_at z p + j) b) p) m 0 ≡ get_or (part_word z y p) m 0
  word_set y p j b m h ne =
      let y1 : List ℕ = set y (part_at z p + j) b in
      let l : length y1 ≡ length y = length-set y (part_at z p + j) b in
      let n : length (part_bytes z y1 p) ≡ length (part_bytes z y p) = length-part_bytes z y1 y p l in
      let w : length (part_word z y1 p) ≡ length (part_word z y p) = length-part_word z y1 y p l in
      elim (cases_lt m (length (part_bytes z y p))) [
        | inl a ↦ word_left z y1 p m (omega arith) ∙ get_or-set_other y (part_at z p + j) (part_at z p + m) b 0
            (λ e. ne (omega (arith, e))) ∙ sym (word_left z y p m a)
        | inr g ↦ elim (cases_lt m (length (part_word z y p))) [
          | inl a ↦ word_right z y1 p m (omega arith) (omega arith)
              ∙ ap (λ k. get_or y1 (part_parity_at z p + (m - k)) 0) n
              ∙ get_or-set_other y (part_at z p + j) (part_parity_at z p + (m - length (part_bytes z y p))) b 0
              (λ e. below_parity z (part_at z p + j) p p (omega (arith, valid.room))
              (omega (arith, length-bytes_most z y p)) (omega arith) (omega (arith, e)))
              ∙ sym (word_right z y p m g a)
          | inr f ↦ get_or_past (part_word z y1 p) m 0 (omega arith) ∙ sym (get_or_past (part_word z y p) m 0 f)
        ]
      ]

  other_same : (y : List ℕ) (p q : Part) (i b : ℕ) → part_at z p ≤ i → i < part_at z p + part_len z p → (q ≡ p → ⊥)
      → SamePart z (set y i b) y q
  other_same y p q i b h k ne = SamePart-places z (set y i b) y q (length-set y i b)
      (λ m a c. get_or-set_other y i m b 0 (λ e. ne (one_part z m q p a c (omega (arith, e)) (omega (arith, e)))))
      (λ m a c. get_or-set_other y i m b 0 (λ e. below_parity z i p q (omega (arith, valid.room)) k h
      (omega (arith, e))))

  -- one correction more is one less to make
  part_step : (y : List ℕ) (p : Part) (i b : ℕ) → IsImage z y → IsMended z now y p → IsMended z now (set y i b) p
      → IsFix z now p i b → i < length now → get_or y i 0 ≡ get_or now i 0 → get_or now i 0 ≢ b
      → corr z (set y i b) p + 1 ≡ corr z y p
  part_step y p i b hy mended mended1 fix inside kept ne = by (nearest z.parity (part_word z now p)) refl
    where
      j : ℕ
      j = i - part_at z p

      at : part_at z p + j ≡ i
      at = omega (arith, fix.low)

      by : (o : Option (List ℕ)) → nearest z.parity (part_word z now p) ≡ o → corr z (set y i b) p + 1 ≡ corr z y p
      by None e = absurd (ne (sym (fix.byte ∙ ap (λ xs. get_or xs j 0) (reading_none z now p e)
          ∙ part_byte z now p j (omega (arith, fix.low, fix.high)) ∙ ap (λ n. get_or now n 0) at)))
      by (Some c) e =
          let long : j < length (part_bytes z now p) = inside_bytes z now p j (omega (arith, fix.low, fix.high))
          (omega (arith, at)) in
          let long_y : j < length (part_bytes z y p) = omega
          (arith, long, length-part_bytes z y now p (hy.0 ∙ sym im.0)) in
          let near : IsNear z.parity (part_word z now p) c =
          nearest-IsNear z.parity (part_word z now p) c (part_word-IsWord z now p im.1) e in
          let w : length (part_word z y p) ≡ length (part_word z now p) =
          length-part_word z y now p (hy.0 ∙ sym im.0) in
          let w1 : length (part_word z (set y i b) p) ≡ length (part_word z y p) =
          length-part_word z (set y i b) y p (length-set y i b) in
          let byte : b ≡ get_or c j 0 = fix.byte ∙ ap (λ xs. get_or xs j 0) (reading_near z now p c e)
          ∙ get_or-take (length (part_bytes z now p)) c j 0 long in
          let here : get_or (part_word z (set y i b) p) j 0 ≡ get_or c j 0 =
          word_left z (set y i b) p j (omega (arith, long_y, length-part_bytes z (set y i b) y p (length-set y i b)))
          ∙ ap (λ n. get_or (set y i b) n 0) at ∙ get_or-set_same y i b 0 (omega (arith, inside, hy.0, im.0))
          ∙ byte in
          let was : get_or (part_word z y p) j 0 ≢ get_or c j 0 =
          (λ s. ne (sym kept ∙ ap (λ n. get_or y n 0) (sym at) ∙ sym (word_left z y p j long_y) ∙ s ∙ sym byte)) in
          ap (λ n. n + 1) (corr_near z (set y i b) p c (mended1.stands.same ∙ e))
          ∙ distance_step (part_word z (set y i b) p) (part_word z y p) c j w1 (omega (arith, near.word.0, w))
          (λ m ne. ap (λ n. get_or (part_word z (set y n b) p) m 0) (sym at) ∙ word_set y p j b m long_y ne) here was
          (omega (arith, long_y, length-word z y p))
          ∙ sym (corr_near z y p c (mended.stands.same ∙ e))

  -- the counts of the zone, by state and words
  zone_step : (y : List ℕ) (p : Part) (i b : ℕ) (s : State) → reading.state ≡ s → IsRead z reading s p
      → part_at z p ≤ i → i < part_at z p + part_len z p → corr z (set y i b) p + 1 ≡ corr z y p
      → (reading_in z (set y i b) reading.words s).corrected + 1 ≡ (reading_in z y reading.words s).corrected
  zone_step y Header i b Found e own h k less =
      omega (
        arith,
        less,
        sum_same (λ c. corr z (set y i b) (Block c)) (λ c. corr z y (Block c))
            ((reading.words.size + z.block - 1) / z.block) 0 (λ c l. corr_same z (set y i b) y (Block c)
            (other_same y Header (Block c) i b h k (λ f. apart c f))),
      )
    where
      apart : (c : ℕ) → Block c ≡ Header → ⊥
      apart c f = (let n : ◌≡◌ {A = ℕ} 0 1 = cc in omega (arith, n))
  zone_step y (Block c) i b Found e own h k less =
      omega (
        arith,
        corr_same z (set y i b) y Header (other_same y (Block c) Header i b h k (λ f. apart f)),
        sum_step (λ c. corr z (set y i b) (Block c)) (λ c. corr z y (Block c))
            ((reading.words.size + z.block - 1) / z.block) 0 c (omega arith)
            (let m = count_below z.block reading.words.size c (block_some z valid) own in omega (arith, m))
            (λ d ne. corr_same z (set y i b) y (Block d) (other_same y (Block c) (Block d) i b h k
            (λ f. ne (number f)))) less,
      )
    where
      apart : Header ≡ Block c → ⊥
      apart f = (let n : ◌≡◌ {A = ℕ} 0 1 = cc in omega (arith, n))

      number : {d : ℕ} → Block d ≡ Block c → d ≡ c
      number {d} f = cc
  zone_step y Header i b Unsigned e own h k less = less
  zone_step y Header i b Empty e own h k less = less
  zone_step y Header i b Invalid e own h k less = less
  zone_step y (Block c) i b Unsigned e own h k less = absurd own
  zone_step y (Block c) i b Empty e own h k less = absurd own
  zone_step y (Block c) i b Invalid e own h k less = absurd own

  count : (k : ℕ) → k ≤ length fixes → (reading_in z (after_stores now (take k fixes))
      reading.words reading.state).corrected + k ≡ (reading_in z now reading.words reading.state).corrected
  unfolding after_stores
  count zero h = omega arith
  count (suc k) h =
      let got = get-some fixes k (omega arith) in
      let s : Store = got.0 in
      let y : List ℕ = after_stores now (take k fixes) in
      let kept = kept_at now fixes 0 fixes_rise.0 k s now fixes_rise.1 got.1 in
      let fix : Fixes z now Own s = all-get (Fixes z now Own) fixes k s own_all got.1 in
      let b : ℕ = fix.1 in
      let i : ℕ = s.place in
      let next : after_stores now (take (suc k) fixes) ≡ set y i b =
      ap (after_stores now) (take-next fixes k s got.1) ∙ after_stores-append now (take k fixes) (s ∷ [])
      ∙ put_one y s.bytes i b fix.3 in
      let ne : get_or now i 0 ≢ b = (λ e. kept.2.2 (e ∙ (let f : b ∷ [] ≡ kept.2.0 ∷ [] = sym fix.3 ∙ kept.2.1 in
      cc))) in
      let inside : i < length now = inside_image fix.0 i fix.4.low fix.4.high fix.2 in
      let less : corr z (set y i b) fix.0 + 1 ≡ corr z y fix.0 =
      part_step y fix.0 i b (fixed_image z valid now im k) (fixed_mended z valid now im k fix.0)
      (subst (λ x. IsMended z now x fix.0) next (fixed_mended z valid now im (suc k) fix.0))
      fix.4 inside kept.1 ne in
      let one = zone_step y fix.0 i b reading.state refl fix.2 fix.4.low fix.4.high less in
      omega (arith, ap (λ x. (reading_in z x reading.words reading.state).corrected) next, one, count k (omega arith))
    where
      inside_image : (p : Part) (i : ℕ) → part_at z p ≤ i → i < part_at z p + part_len z p → Own p → i < length now
      inside_image Header i h k own = omega (arith, im.0, valid.at_least)
      inside_image (Block c) i h k own = omega (arith, im.0, valid.cap)

pub corrections_keep_reading : CorrectionsKeepReading
unfolding boot_stores
corrections_keep_reading z now k valid im h =
    let rest : List Store = stores_in_turn z (boot_erasure z now) (after_stores now (boot_fixes z now)) in
    let y : List ℕ = after_stores now (take k (boot_fixes z now)) in
    let is : after_boot_stores z now k ≡ y = ap (after_stores now) (take-append-le k (boot_fixes z now) rest h) in
    let words : words_read z y ≡ words_read z now = ap (words_in z.byte_order)
    (fixed_mended z valid now im k Header).reading in
    let r : ZoneReading = zone_reading z now in
    let reads : zone_reading z y ≡ reading_in z y r.words r.state =
    reading_is z y ∙ ap (λ w. reading_in z y w (state_of z w)) (words ∙ sym (reading_words z now))
    ∙ ap (reading_in z y r.words) (ap (state_of z) (reading_words z now) ∙ sym (reading_state z now)) in
    let own : r ≡ reading_in z now r.words r.state =
    reading_is z now ∙ ap (λ w. reading_in z now w (state_of z w)) (sym (reading_words z now))
    ∙ ap (reading_in z now r.words) (ap (state_of z) (reading_words z now) ∙ sym (reading_state z now)) in
    let whole : zone_reading z (after_boot_stores z now k) ≡ reading_in z y r.words r.state =
    ap (zone_reading z) is ∙ reads in record {
      state = ap (λ (v : ZoneReading). v.state) whole ∙ state_in_reading z y r.words r.state;
      words = ap (λ (v : ZoneReading). v.words) whole ∙ words_in_reading z y r.words r.state;
      log = ap (λ (v : ZoneReading). v.log) whole ∙ log_in z now y r.words r.state
          (λ p. ap (λ xs. get_or xs (p % z.block) 0) (fixed_mended z valid now im k (Block (p / z.block))).reading)
          ∙ ap (λ (v : ZoneReading). v.log) (sym own);
      corrected = ap (λ (v : ZoneReading). v.corrected + k) whole ∙ count z valid now im k h
          ∙ ap (λ (v : ZoneReading). v.corrected) (sym own);
    }
  where
    map_all : (f g : ℕ → ℕ) (xs : List ℕ) → ((p : ℕ) → f p ≡ g p) → map f xs ≡ map g xs
    map_all f g [] h = refl
    map_all f g (x ∷ xs) h = ap₂ (λ y ys. y ∷ ys) (h x) (map_all f g xs h)

    log_in : (z : Zone) (now y : List ℕ) (w : Words) (s : State) → ((p : ℕ) → byte_read z y p ≡ byte_read z now p)
        → (reading_in z y w s).log ≡ (reading_in z now w s).log
    log_in z now y w Found h = map_all (λ p. byte_read z y p) (λ p. byte_read z now p) (log_places w.start w.size) h
    log_in z now y w Unsigned h = refl
    log_in z now y w Empty h = refl
    log_in z now y w Invalid h = refl
