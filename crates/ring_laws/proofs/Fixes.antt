-- What the corrections of a boot leave, after any number of them
use Rattle.std.proofs.Common.{◌≡◌, ◌≢◌, ℕ, zero, suc, ◌+◌, ◌-◌, ◌*◌, ◌<◌, ◌≤◌, ◌⊎◌, List, [], ◌∷◌, ◌++◌, length, take}
use Rattle.std.proofs.Common.{drop, get_or, set, slice_range, Bool, true, false, cond, ◌==◌, refl, sym, ap, ap₂, ◌∙◌}
use Rattle.std.proofs.Common.{subst, arith, inl, inr, Option, Some, None, length-take, length-drop, length-append}
use Rattle.std.proofs.Common.{length-set, get_or-take, get_or-set_same, get_or-set_other, eqb-true, mul-le-mul_right}
use Rattle.std.proofs.Common.{mul_comm}
use Rattle.std.proofs.lemmas.Bool.{cases_lt, cases_eq}
use Rattle.std.proofs.lemmas.List.{get_or_past, get_or_append_left, get_or-append_right}
use Rattle.std.specs.List.{AllByRecursion}
use Rattle.list_laws.proofs.Slices.{get_or-slice_range}
use Rattle.list_laws.proofs.Elements.{AllByRecursion-append}
use Rattle.zone_spec.specs.declared.Zone.{Zone}
use Rattle.zone_spec.specs.Zones.{IsValidZone}
use Rattle.code_spec.specs.Code.{nearest}
use Rattle.zone_spec.specs.Parts.{AreBytes, Part, Header, Block, part_at, part_len, part_parity_at, part_bytes}
use Rattle.zone_spec.specs.Parts.{part_word}
use Rattle.zone_spec.specs.PartReadings.{part_reading}
use Rattle.zone_spec.specs.Stores.{Store, put, after_stores}
use Rattle.zone_spec.specs.Boot.{fix_stores}
use Rattle.code_laws.specs.Toward.{IsToward, StandsFor}
use Rattle.code_laws.proofs.Toward.{toward}
use Rattle.ring_laws.proofs.Images.{length-put}
use Rattle.ring_laws.proofs.PartWords.{part_word-IsWord, length-part_bytes, length-part_word, part_word-short}
use Rattle.ring_laws.proofs.PartWords.{part_bytes-word, reading_near, reading_none}

-- ---- the bytes of a word of a part, by their places in the image

-- ---- corrections as bytes at places

-- a place within a part's bytes, and the byte that the part reads there
pub record IsFix (z : Zone) (image : List ℕ) (part : Part) (i b : ℕ) : Type 0 where
  pub low : part_at z part ≤ i
  pub high : i < part_at z part + part_len z part
  pub byte : b ≡ get_or (part_reading z image part).bytes (i - part_at z part) 0

abbrev pub Fixes : Zone → List ℕ → (Part → Type 0) → Store → Type 0
Fixes z image Own s = (part : Part) × (b : ℕ) × Own part × (s.bytes ≡ b ∷ []) × IsFix z image part s.place b

module _ (z : Zone) (image : List ℕ) where
  pub fix_stores-all : (Own : Part → Type 0) (part : Part) (j : ℕ) (bs cs : List ℕ) → Own part
      → j + length bs ≤ part_len z part
      → ((i : ℕ) → i < length cs → get_or cs i 0 ≡ get_or (part_reading z image part).bytes (j + i) 0)
      → AllByRecursion (Fixes z image Own) (fix_stores (part_at z part + j) bs cs)
  unfolding fix_stores
  fix_stores-all Own part j [] cs own h same = tt
  fix_stores-all Own part j (b ∷ bs) [] own h same = tt
  fix_stores-all Own part j (b ∷ bs) (c ∷ cs) own h same =
      AllByRecursion-append (Fixes z image Own)
      (cond (b == c) [] (record { place = part_at z part + j; bytes = c ∷ [] } ∷ []))
      (fix_stores (part_at z part + j + 1) bs cs)
      (first (b == c))
      (let e : part_at z part + (j + 1) ≡ part_at z part + j + 1 = omega arith in
      subst (λ p. AllByRecursion (Fixes z image Own) (fix_stores p bs cs)) e
      (fix_stores-all Own part (j + 1) bs cs own (omega arith)
      (λ i k. same (suc i) (omega arith) ∙ ap (λ n. get_or (part_reading z image part).bytes n 0) (omega arith))))
    where
      first : (t : Bool) → AllByRecursion (Fixes z image Own)
          (cond t [] (record { place = part_at z part + j; bytes = c ∷ [] } ∷ []))
      first true = tt
      first false = (
        (
          part,
          c,
          own,
          refl,
          record {
            low = omega arith;
            high = omega arith;
            byte = same 0 (omega arith) ∙ ap (λ n. get_or (part_reading z image part).bytes n 0) (omega arith);
          },
        ),
        tt,
      )

-- ---- places

-- what a byte put leaves at a place
put_at : (x : List ℕ) (at b i : ℕ) → (get_or (set x at b) i 0 ≡ get_or x i 0) ⊎
    ((i ≡ at) × (i < length x) × (get_or (set x at b) i 0 ≡ b))
put_at x at b i = elim (cases_eq i at) [
  | inl e ↦ elim (cases_lt i (length x)) [
    | inl l ↦ (let m : at < length x = omega arith in inr
        (e, l, ap (λ n. get_or (set x at b) n 0) e ∙ get_or-set_same x at b 0 m))
    | inr g ↦ inl (get_or_past (set x at b) i 0 (omega (arith, length-set x at b)) ∙ sym (get_or_past x i 0 g))
  ]
  | inr n ↦ inl (get_or-set_other x at i b 0 n)
]

pub put_one : (x bs : List ℕ) (at b : ℕ) → bs ≡ b ∷ [] → put x at bs ≡ set x at b
unfolding put
put_one x bs at b e = rw e refl

abbrev pub Fixed : Zone → List ℕ → (Part → Type 0) → ℕ → ℕ → Type 0
Fixed z image Own i v = (part : Part) × Own part × IsFix z image part i v

module _ (z : Zone) (image : List ℕ) (Own : Part → Type 0) where
  fixed_keeps : (ss : List Store) (x : List ℕ) (i : ℕ) → AllByRecursion (Fixes z image Own) ss
      → Fixed z image Own i (get_or x i 0) → Fixed z image Own i (get_or (after_stores x ss) i 0)
  unfolding after_stores
  fixed_keeps [] x i h k = k
  fixed_keeps (s ∷ ss) x i h k =
      fixed_keeps ss (put x s.place s.bytes) i h.1
      (subst (λ y. Fixed z image Own i (get_or y i 0)) (sym (put_one x s.bytes s.place h.0.1 h.0.3))
      (elim (put_at x s.place h.0.1 i) [
        | inl e ↦ subst (Fixed z image Own i) (sym e) k
        | inr e ↦ subst (Fixed z image Own i) (sym e.2) (
          h.0.0,
          h.0.2,
          subst (λ n. IsFix z image h.0.0 n h.0.1) (sym e.0) h.0.4,
        )
      ]))

  -- after some corrections each byte is as it was, or corrected
  pub some_fixed : (ss : List Store) (x : List ℕ) (i : ℕ) → AllByRecursion (Fixes z image Own) ss
      → (get_or x i 0 ≡ get_or image i 0) ⊎ Fixed z image Own i (get_or x i 0)
      → (get_or (after_stores x ss) i 0 ≡ get_or image i 0) ⊎ Fixed z image Own i (get_or (after_stores x ss) i 0)
  unfolding after_stores
  some_fixed [] x i h k = k
  some_fixed (s ∷ ss) x i h k =
      some_fixed ss (put x s.place s.bytes) i h.1
      (subst (λ y. (get_or y i 0 ≡ get_or image i 0) ⊎ Fixed z image Own i (get_or y i 0))
      (sym (put_one x s.bytes s.place h.0.1 h.0.3))
      (elim (put_at x s.place h.0.1 i) [
        | inl e ↦ subst (λ v. (v ≡ get_or image i 0) ⊎ Fixed z image Own i v) (sym e) k
        | inr e ↦ inr (subst (Fixed z image Own i) (sym e.2)
            (h.0.0, h.0.2, subst (λ n. IsFix z image h.0.0 n h.0.1) (sym e.0) h.0.4))
      ]))

-- some store is at the place
pub HasStoreAt : ℕ → List Store → Type 0
HasStoreAt i [] = ⊥
HasStoreAt i (s ∷ ss) = (s.place ≡ i) ⊎ HasStoreAt i ss

pub has_left : (i : ℕ) (xs ys : List Store) → HasStoreAt i xs → HasStoreAt i (xs ++ ys)
unfolding HasStoreAt
has_left i [] ys h = absurd h
has_left i (x ∷ xs) ys (inl e) = inl e
has_left i (x ∷ xs) ys (inr h) = inr (has_left i xs ys h)

pub has_right : (i : ℕ) (xs ys : List Store) → HasStoreAt i ys → HasStoreAt i (xs ++ ys)
unfolding HasStoreAt
has_right i [] ys h = h
has_right i (x ∷ xs) ys h = inr (has_right i xs ys h)

pub has_fix : (place j : ℕ) (bs cs : List ℕ) → j < length bs → j < length cs → get_or bs j 0 ≢ get_or cs j 0
    → HasStoreAt (place + j) (fix_stores place bs cs)
unfolding fix_stores HasStoreAt
has_fix place j [] cs h k ne = absurd (omega arith)
has_fix place j (b ∷ bs) [] h k ne = absurd (omega arith)
has_fix place zero (b ∷ bs) (c ∷ cs) h k ne =
    has_left (place + 0) (cond (b == c) [] (record { place = place; bytes = c ∷ [] } ∷ []))
    (fix_stores (place + 1) bs cs) (by (b == c) refl)
  where
    by : (t : Bool) → (b == c) ≡ t → HasStoreAt (place + 0) (cond t [] (record { place = place; bytes = c ∷ [] } ∷ []))
    by true e = absurd (ne (eqb-true b c e))
    by false e = inl (omega arith)
has_fix place (suc j) (b ∷ bs) (c ∷ cs) h k ne =
    has_right (place + suc j) (cond (b == c) [] (record { place = place; bytes = c ∷ [] } ∷ []))
    (fix_stores (place + 1) bs cs)
    (let e : place + 1 + j ≡ place + suc j = omega arith in
    subst (λ i. HasStoreAt i (fix_stores (place + 1) bs cs)) e
    (has_fix (place + 1) j bs cs (omega arith) (omega arith) ne))

module _ (z : Zone) (image : List ℕ) (Own : Part → Type 0) where
  pub fixed_there : (ss : List Store) (x : List ℕ) (i : ℕ) → i < length x → AllByRecursion (Fixes z image Own) ss
      → HasStoreAt i ss → Fixed z image Own i (get_or (after_stores x ss) i 0)
  unfolding after_stores HasStoreAt
  fixed_there [] x i l h k = absurd k
  fixed_there (s ∷ ss) x i l h (inl e) =
      fixed_keeps z image Own ss (put x s.place s.bytes) i h.1
      (let at : s.place < length x = omega (arith, e) in
      let v : get_or (put x s.place s.bytes) i 0 ≡ h.0.1 =
      ap (λ y. get_or y i 0) (put_one x s.bytes s.place h.0.1 h.0.3)
      ∙ ap (λ n. get_or (set x s.place h.0.1) n 0) (sym e) ∙ get_or-set_same x s.place h.0.1 0 at in
      subst (Fixed z image Own i) (sym v) (h.0.0, h.0.2, subst (λ n. IsFix z image h.0.0 n h.0.1) e h.0.4))
  fixed_there (s ∷ ss) x i l h (inr k) = fixed_there ss (put x s.place s.bytes) i
      (omega (arith, length-put x s.place s.bytes)) h.1 k

-- ---- the parts do not meet
block_order : (k b c i : ℕ) → k * b ≤ i → i < k * (b + 1) → k * c ≤ i → i < k * (c + 1) → b ≡ c
block_order k b c i h l m n = elim (cases_lt b c) [
  | inl a ↦ (let s : b + 1 ≤ c = omega arith in let r : (b + 1) * k ≤ c * k = mul-le-mul_right k s in
      absurd (omega (arith, mul_comm k (b + 1), mul_comm k c)))
  | inr g ↦ elim (cases_lt c b) [
    | inl a ↦ (let s : c + 1 ≤ b = omega arith in let r : (c + 1) * k ≤ b * k = mul-le-mul_right k s in
        absurd (omega (arith, mul_comm k (c + 1), mul_comm k b)))
    | inr f ↦ omega arith
  ]
]

pub one_part : (z : Zone) (i : ℕ) (p q : Part) → part_at z p ≤ i → i < part_at z p + part_len z p → part_at z q ≤ i
    → i < part_at z q + part_len z q → p ≡ q
one_part z i Header Header a b c d = refl
one_part z i Header (Block k) a b c d = absurd (omega arith)
one_part z i (Block k) Header a b c d = absurd (omega arith)
one_part z i (Block k) (Block l) a b c d =
    ap (λ n. Block n) (block_order z.block k l (i - 12) (omega arith) (omega arith) (omega arith) (omega arith))

pub below_parity : (z : Zone) (i : ℕ) (p q : Part) → 0 < z.cap → i < part_at z p + part_len z p → part_at z p ≤ i
    → part_parity_at z q ≤ i → ⊥
below_parity z i Header Header room a l b = omega arith
below_parity z i Header (Block k) room a l b = omega arith
below_parity z i (Block k) Header room a l b = omega arith
below_parity z i (Block k) (Block m) room a l b = omega arith

-- ---- what corrected bytes mean for a part
pub record IsMended (z : Zone) (image y : List ℕ) (part : Part) : Type 0 where
  pub stands : StandsFor z.parity (part_word z image part) (part_word z y part)
  pub reading : (part_reading z y part).bytes ≡ (part_reading z image part).bytes

-- the word of a part that is towards what it stands for reads the same
pub toward_mended : (z : Zone) (image y : List ℕ) (part : Part) → IsValidZone z → length y ≡ length image
    → AreBytes image → AreBytes y
    → IsToward z.parity (part_word z image part) (part_word z y part) → IsMended z image y part
toward_mended z image y part valid l hi hy t =
    let w : List ℕ = part_word z image part in
    let v : List ℕ = part_word z y part in
    let s : StandsFor z.parity w v = toward z.parity w v (part_word-short z image part valid)
    (part_word-IsWord z image part hi)
    (length-part_word z y image part l, (part_word-IsWord z y part hy).1) t in
    record { stands = s; reading = by s (nearest z.parity w) refl }
  where
    by : StandsFor z.parity (part_word z image part) (part_word z y part) → (o : Option (List ℕ))
        → nearest z.parity (part_word z image part) ≡ o → (part_reading z y part).bytes
        ≡ (part_reading z image part).bytes
    by s (Some c) e =
        reading_near z y part c (s.same ∙ e) ∙ ap (λ n. take n c) (length-part_bytes z y image part l)
        ∙ sym (reading_near z image part c e)
    by s None e =
        reading_none z y part (s.same ∙ e) ∙ sym (part_bytes-word z y part)
        ∙ ap₂ take (length-part_bytes z y image part l) (s.none e) ∙ part_bytes-word z image part
        ∙ sym (reading_none z image part e)

pub length-bytes_most : (z : Zone) (x : List ℕ) (part : Part) → length (part_bytes z x part) ≤ part_len z part
unfolding part_bytes
length-bytes_most z x part = omega (
  arith,
  length-take ((part_at z part + part_len z part) - part_at z part)
      (drop (part_at z part) x),
)

pub part_byte : (z : Zone) (x : List ℕ) (part : Part) (i : ℕ) → i < part_len z part
    → get_or (part_bytes z x part) i 0 ≡ get_or x (part_at z part + i) 0
unfolding part_bytes
part_byte z x part i h = get_or-slice_range x (part_at z part) (part_at z part + part_len z part) i (omega arith)

pub word_left : (z : Zone) (x : List ℕ) (part : Part) (i : ℕ) → i < length (part_bytes z x part)
    → get_or (part_word z x part) i 0 ≡ get_or x (part_at z part + i) 0
unfolding part_word
word_left z x part i h = get_or_append_left (part_bytes z x part) _ 0 i h
    ∙ part_byte z x part i (omega (arith, length-bytes_most z x part))

pub word_right : (z : Zone) (x : List ℕ) (part : Part) (i : ℕ) → length (part_bytes z x part) ≤ i
    → i < length (part_word z x part) → get_or (part_word z x part) i 0
    ≡ get_or x (part_parity_at z part + (i - length (part_bytes z x part))) 0
unfolding part_word
word_right z x part i h k =
    let n : ℕ = length (part_bytes z x part) in
    get_or-append_right (part_bytes z x part) _ n i 0 refl h
    ∙ get_or-slice_range x (part_parity_at z part) (part_parity_at z part + z.parity) (i - n)
    (omega (
      arith,
      length-append (part_bytes z x part) (slice_range x (part_parity_at z part)
          (part_parity_at z part + z.parity)),
      length-take ((part_parity_at z part + z.parity) - part_parity_at z part)
          (drop (part_parity_at z part) x),
    ))

pub reading_byte : (z : Zone) (image : List ℕ) (part : Part) (i : ℕ) → i < length (part_bytes z image part)
    → (get_or (part_reading z image part).bytes i 0 ≡ get_or (part_word z image part) i 0) ⊎
    ((c : List ℕ) × (nearest z.parity (part_word z image part) ≡ Some c)
    × (get_or (part_reading z image part).bytes i 0 ≡ get_or c i 0))
reading_byte z image part i h = by (nearest z.parity (part_word z image part)) refl
  where
    by : (o : Option (List ℕ)) → nearest z.parity (part_word z image part) ≡ o
        → (get_or (part_reading z image part).bytes i 0 ≡ get_or (part_word z image part) i 0) ⊎
        ((c : List ℕ) × (nearest z.parity (part_word z image part) ≡ Some c)
        × (get_or (part_reading z image part).bytes i 0 ≡ get_or c i 0))
    by None e = inl (ap (λ xs. get_or xs i 0) (reading_none z image part e ∙ sym (part_bytes-word z image part))
        ∙ get_or-take (length (part_bytes z image part)) (part_word z image part) i 0 h)
    by (Some c) e = inr (
      c,
      e,
      ap (λ xs. get_or xs i 0) (reading_near z image part c e)
          ∙ get_or-take (length (part_bytes z image part)) c i 0 h,
    )

-- where each byte of an image is as it was or corrected, each part reads as it did
pub fixed_toward : (z : Zone) (Own : Part → Type 0) (image y : List ℕ) (part : Part) → IsValidZone z
    → length y ≡ length image
    → ((i : ℕ) → (get_or y i 0 ≡ get_or image i 0) ⊎ Fixed z image Own i (get_or y i 0))
    → IsToward z.parity (part_word z image part) (part_word z y part)
fixed_toward z Own image y part valid l each i h =
    let n : ℕ = length (part_bytes z image part) in
    let m : length (part_bytes z y part) ≡ n = length-part_bytes z y image part l in
    elim (cases_lt i n) [
      | inl a ↦ elim (each (part_at z part + i)) [
        | inl e ↦ inl (word_left z y part i (omega arith) ∙ e ∙ sym (word_left z image part i a))
        | inr f ↦
            (let same : f.0 ≡ part = one_part z (part_at z part + i) f.0 part f.2.low f.2.high (omega arith)
            (omega (arith, length-bytes_most z image part)) in
            let fix : IsFix z image part (part_at z part + i) (get_or y (part_at z part + i) 0) =
            subst (λ q. IsFix z image q (part_at z part + i) (get_or y (part_at z part + i) 0)) same f.2 in
            let v : get_or (part_word z y part) i 0 ≡ get_or (part_reading z image part).bytes i 0 =
            word_left z y part i (omega arith) ∙ fix.byte ∙ ap (λ k. get_or (part_reading z image part).bytes k 0)
            (omega arith) in
            elim (reading_byte z image part i a) [
              | inl e ↦ inl (v ∙ e)
              | inr e ↦ inr (e.0, e.1, v ∙ e.2)
            ])
      ]
      | inr g ↦ inl (word_right z y part i (omega arith) (omega (arith, length-part_word z y image part l))
          ∙ ap (λ k. get_or y (part_parity_at z part + (i - k)) 0) m
          ∙ (elim (each (part_parity_at z part + (i - n))) [
            | inl e ↦ e
            | inr f ↦ absurd (below_parity z (part_parity_at z part + (i - n)) f.0 part (omega (arith, valid.room))
                f.2.high f.2.low (omega arith))
          ])
          ∙ sym (word_right z image part i g h))
    ]

pub length-inside : (z : Zone) (x : List ℕ) (part : Part) → (0 < length (part_bytes z x part))
    → part_at z part + length (part_bytes z x part) ≤ length x
unfolding part_bytes
length-inside z x part h = omega (
  arith,
  length-take ((part_at z part + part_len z part) - part_at z part)
      (drop (part_at z part) x),
  length-drop (part_at z part) x,
)
