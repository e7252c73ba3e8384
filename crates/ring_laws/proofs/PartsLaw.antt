-- What stores do to the parts of a zone, at every parity
use Rattle.std.proofs.Common.{◌≡◌, ◌≢◌, ℕ, zero, suc, ◌+◌, ◌-◌, ◌*◌, ◌<◌, ◌≤◌, min, ◌⊎◌, List, [], ◌∷◌, ◌++◌, length}
use Rattle.std.proofs.Common.{take, drop, map, get_or, slice_range, refl, sym, ap, ap₂, ◌∙◌, subst, arith, inl, inr}
use Rattle.std.proofs.Common.{length-take, length-drop, get_or-take, get_or-drop, take_at, set, length-set}
use Rattle.std.proofs.Common.{get_or-set_same, get_or-set_other, Some, IsTrue, mul-le-mul_right, add-mul}
use Rattle.std.proofs.lemmas.Bool.{cases_lt, cases_eq}
use Rattle.std.proofs.lemmas.List.{same_lists, get_or_default, get_or_past}
use Rattle.std.specs.List.{range_with_len}
use Rattle.zone_spec.specs.declared.Zone.{Zone}
use Rattle.zone_spec.specs.Zones.{IsValidZone}
use Rattle.code_spec.specs.Code.{is_codeword, nearest, parity_of}
use Rattle.zone_spec.specs.Parts.{AreBytes, Part, Header, Block, part_at, part_len, part_parity_at, part_bytes}
use Rattle.zone_spec.specs.Parts.{part_word}
use Rattle.zone_spec.specs.Stages.{ParityOf, stage_stores}
use Rattle.zone_spec.specs.Stores.{put}
use Rattle.zone_spec.specs.Ring.{ReadsAsStands}
use Rattle.ring_laws.proofs.Images.{length-put, put-below, put-above, put-inside, after_stores-byte_stores}
use Rattle.ring_laws.proofs.AppendLaw.{all_stages, stage_image}

pub block_some : (z : Zone) → IsValidZone z → 0 < z.block
block_some z valid = grind (arith, valid.block)

-- parity makes a codeword of every message that leaves it room
abbrev pub HasParity : ℕ → Type 0
HasParity r = (m : List ℕ) → AreBytes m → length m + r ≤ 255
    → (length (parity_of r m) ≡ r) × AreBytes (parity_of r m) × IsTrue (is_codeword r (m ++ parity_of r m))

-- a part's place among the parities: the blocks in order, and then the header
abbrev pub part_number : Zone → Part → ℕ
part_number z Header = z.blocks
part_number z (Block b) = b

-- a part that the zone has
abbrev pub HasPart : Zone → Part → Type 0
HasPart z Header = Unit {0}
HasPart z (Block b) = b < z.blocks

pub part_parity_at-number : (z : Zone) (p : Part) → part_parity_at z p ≡ 12 + z.cap + part_number z p * z.parity
part_parity_at-number z Header = refl
part_parity_at-number z (Block b) = refl

part_number-below : (z : Zone) (p : Part) → HasPart z p → part_number z p ≤ z.blocks
part_number-below z Header h = omega arith
part_number-below z (Block b) h = omega arith

-- a part's bytes end before the parities, which end before the zone
pub part_end : (z : Zone) (p : Part) → 0 < z.cap → part_at z p + part_len z p ≤ 12 + z.cap ⊎ (part_len z p ≡ 0)
part_end z Header h = inl (omega arith)
part_end z (Block b) h = elim (cases_lt (z.block * b) z.cap) [ inl a ↦ inl (omega arith) | inr k ↦ inr (omega arith) ]

pub slice_range-same : (xs ys : List ℕ) (a b : ℕ) → length xs ≡ length ys
    → ((i : ℕ) → a ≤ i → i < b → get_or xs i 0 ≡ get_or ys i 0) → slice_range xs a b ≡ slice_range ys a b
slice_range-same xs ys a b l h =
    same_lists _ _ (omega (
      arith,
      length-take (b - a) (drop a xs),
      length-take (b - a) (drop a ys),
      length-drop a xs,
      length-drop a ys,
    ))
    (λ k d m.
    let k_low : k < b - a = omega (arith, length-take (b - a) (drop a xs)) in
    let k_in : a + k < length xs = omega (arith, length-take (b - a) (drop a xs), length-drop a xs) in
    get_or-take (b - a) (drop a xs) k d k_low ∙ get_or-drop a xs k d ∙ get_or_default xs (a + k) d 0 k_in
    ∙ h (a + k) (omega arith) (omega arith)
    ∙ sym (get_or-take (b - a) (drop a ys) k d k_low ∙ get_or-drop a ys k d
    ∙ get_or_default ys (a + k) d 0 (omega arith)))

-- two images in which a part has the same bytes and parity
pub record SamePart (z : Zone) (x y : List ℕ) (p : Part) : Type 0 where
  pub bytes : part_bytes z x p ≡ part_bytes z y p
  pub word : part_word z x p ≡ part_word z y p

pub SamePart-trans : {z : Zone} {x y w : List ℕ} {p : Part} → SamePart z x y p → SamePart z y w p → SamePart z x w p
SamePart-trans a b = record { bytes = a.bytes ∙ b.bytes; word = a.word ∙ b.word }

pub ReadsAsStands-same : {z : Zone} {x y : List ℕ} {p : Part} → SamePart z x y p → ReadsAsStands z y p
    → ReadsAsStands z x p
ReadsAsStands-same {z} {x} {y} {p} s h =
    subst (λ w. (c : List ℕ) → nearest z.parity w ≡ Some c → take (length (part_bytes z x p)) c ≡ part_bytes z x p)
    (sym s.word)
    (subst (λ bs. (c : List ℕ) → nearest z.parity (part_word z y p) ≡ Some c → take (length bs) c ≡ bs) (sym s.bytes) h)

-- it is so where the images agree at the part's places
pub SamePart-places : (z : Zone) (x y : List ℕ) (p : Part) → length x ≡ length y
    → ((i : ℕ) → part_at z p ≤ i → i < part_at z p + part_len z p → get_or x i 0 ≡ get_or y i 0)
    → ((i : ℕ) → part_parity_at z p ≤ i → i < part_parity_at z p + z.parity → get_or x i 0 ≡ get_or y i 0)
    → SamePart z x y p
unfolding part_bytes part_word
SamePart-places z x y p l h k =
    let b : part_bytes z x p ≡ part_bytes z y p = slice_range-same x y _ _ l h in
    record { bytes = b; word = ap₂ (λ u v. u ++ v) b (slice_range-same x y _ _ l k) }

-- bytes put behind the parts' bytes, over another part's parity, leave a part alone
SamePart-parity : (z : Zone) (x bs : List ℕ) (p q : Part) → 0 < z.cap → length bs ≡ z.parity
    → part_number z p ≢ part_number z q → SamePart z (put x (part_parity_at z p) bs) x q
SamePart-parity z x bs p q room l ne =
    let ep : part_parity_at z p ≡ 12 + z.cap + part_number z p * z.parity = part_parity_at-number z p in
    let eq : part_parity_at z q ≡ 12 + z.cap + part_number z q * z.parity = part_parity_at-number z q in
    SamePart-places z _ x q (length-put x (part_parity_at z p) bs)
    (λ i h k. put-below x (part_parity_at z p) i bs (elim (part_end z q room)
    [ inl a ↦ omega arith | inr e ↦ absurd (omega arith) ]))
    (λ i h k. elim (cases_lt (part_number z p) (part_number z q)) [
      | inl a ↦ (let d : part_number z p + 1 ≤ part_number z q = omega arith in
          let m : (part_number z p + 1) * z.parity ≤ part_number z q * z.parity = mul-le-mul_right z.parity d in
          put-above x (part_parity_at z p) i bs (omega (arith, add-mul (part_number z p) 1 z.parity)))
      | inr b ↦ (let d : part_number z q + 1 ≤ part_number z p = omega arith in
          let m : (part_number z q + 1) * z.parity ≤ part_number z p * z.parity = mul-le-mul_right z.parity d in
          put-below x (part_parity_at z p) i bs (omega (arith, add-mul (part_number z q) 1 z.parity)))
    ])

-- a codeword is its own nearest
pub nearest-codeword : (r : ℕ) (w : List ℕ) → IsTrue (is_codeword r w) → nearest r w ≡ Some w
unfolding nearest
nearest-codeword r w h = rw h refl

pub part_fits : (z : Zone) (p : Part) → IsValidZone z → HasPart z p → part_parity_at z p + z.parity ≤ z.size
part_fits z p valid has =
    let m : (part_number z p + 1) * z.parity ≤ (z.blocks + 1) * z.parity =
    mul-le-mul_right z.parity (let h : part_number z p + 1
    ≤ z.blocks + 1 = omega (arith, part_number-below z p has) in h) in
    omega (arith, part_parity_at-number z p, valid.cap, add-mul (part_number z p) 1 z.parity)

pub slice_range-bytes : (xs : List ℕ) (a b : ℕ) → AreBytes xs → AreBytes (slice_range xs a b)
slice_range-bytes xs a b h i = elim (cases_lt i (b - a)) [
  | inl l ↦ rw (get_or-take (b - a) (drop a xs) i 0 l, get_or-drop a xs i 0) (h (a + i))
  | inr g ↦ (let e : get_or (slice_range xs a b) i 0 ≡ 0 = get_or_past (slice_range xs a b) i 0
      (omega (arith, length-take (b - a) (drop a xs))) in omega arith)
]

-- what was put reads back
pub slice_range-put : (x bs : List ℕ) (at n : ℕ) → length bs ≡ n → at + n ≤ length x
    → slice_range (put x at bs) at (at + n) ≡ bs
slice_range-put x bs at n l h =
    same_lists _ _ (omega (
      arith,
      length-take ((at + n) - at) (drop at (put x at bs)),
      length-drop at (put x at bs),
      length-put x at bs,
    ))
    (λ k d m.
    let k_low : k < n = omega (arith, length-take ((at + n) - at) (drop at (put x at bs))) in
    get_or-take ((at + n) - at) (drop at (put x at bs)) k d (omega arith) ∙ get_or-drop at (put x at bs) k d
    ∙ get_or_default (put x at bs) (at + k) d 0 (omega (arith, length-put x at bs))
    ∙ put-inside x at k bs (omega arith) (omega arith) ∙ get_or_default bs k 0 d (omega arith))

-- a word whose parity was just computed reads as it stands
pub ReadsAsStands-parity : (z : Zone) (x : List ℕ) (p : Part) → IsValidZone z → HasPart z p → HasParity z.parity
    → length x ≡ z.size → AreBytes x
    → length (part_bytes z x p) + z.parity ≤ 255 → ReadsAsStands z
    (put x (part_parity_at z p) (parity_of z.parity (part_bytes z x p))) p
unfolding part_bytes part_word
ReadsAsStands-parity z x p valid has parity len bytes short c near =
    let msg : List ℕ = part_bytes z x p in
    let par : List ℕ = parity_of z.parity msg in
    let made : (length par ≡ z.parity) × AreBytes par × IsTrue (is_codeword z.parity (msg ++ par)) =
    parity msg (slice_range-bytes x _ _ bytes) short in
    let at : part_parity_at z p ≡ 12 + z.cap + part_number z p * z.parity = part_parity_at-number z p in
    let same : part_bytes z (put x (part_parity_at z p) par) p ≡ msg =
    slice_range-same _ x _ _ (length-put x (part_parity_at z p) par)
    (λ i h k. put-below x (part_parity_at z p) i par (elim (part_end z p (omega (arith, valid.room)))
    [ inl a ↦ omega arith | inr e ↦ absurd (omega arith) ])) in
    let back : slice_range (put x (part_parity_at z p) par) (part_parity_at z p) (part_parity_at z p + z.parity) ≡ par =
    slice_range-put x par (part_parity_at z p) z.parity made.0 (omega (arith, part_fits z p valid has)) in
    let word : part_word z (put x (part_parity_at z p) par) p ≡ msg ++ par = ap₂ (λ u v. u ++ v) same back in
    let own : nearest z.parity (part_word z (put x (part_parity_at z p) par) p) ≡ Some (msg ++ par) =
    ap (nearest z.parity) word ∙ nearest-codeword z.parity (msg ++ par) made.2 in
    let is : c ≡ msg ++ par = (let e : Some c ≡ Some (msg ++ par) = sym near ∙ own in cc) in
    rw same (ap (take (length msg)) is ∙ take_at msg par (length msg) refl)

-- ---- the parities of a run's blocks

-- images that agree before the parities
pub record SameData (z : Zone) (x y : List ℕ) : Type 0 where
  pub total : length x ≡ length y
  pub each : (i : ℕ) → i < 12 + z.cap → get_or x i 0 ≡ get_or y i 0

pub SameData-refl : (z : Zone) (x : List ℕ) → SameData z x x
SameData-refl z x = record { total = refl; each = λ i h. refl }

pub SameData-trans : {z : Zone} {x y w : List ℕ} → SameData z x y → SameData z y w → SameData z x w
SameData-trans a b = record { total = a.total ∙ b.total; each = λ i h. a.each i h ∙ b.each i h }

-- the same bytes put into both
pub SameData-put : {z : Zone} {x y : List ℕ} (at : ℕ) (bs : List ℕ) → SameData z x y
    → SameData z (put x at bs) (put y at bs)
unfolding put
SameData-put {z} {x} {y} at bs s = record {
  total = length-put x at bs ∙ s.total ∙ sym (length-put y at bs);
  each = put_both x y at bs s.total s.each;
}
  where
    step : (x y : List ℕ) (at b : ℕ) → length x ≡ length y → ((i : ℕ) → i < 12 + z.cap → get_or x i 0 ≡ get_or y i 0)
        → (i : ℕ) → i < 12 + z.cap → get_or (set x at b) i 0 ≡ get_or (set y at b) i 0
    step x y at b l h i k = elim (cases_eq i at) [
      | inl e ↦ elim (cases_lt i (length x)) [
        | inl m ↦ (let p : at < length x = omega arith in let q : at < length y = omega arith in
            rw e (get_or-set_same x at b 0 p ∙ sym (get_or-set_same y at b 0 q)))
        | inr g ↦ get_or_past (set x at b) i 0 (omega (arith, length-set x at b))
            ∙ sym (get_or_past (set y at b) i 0 (omega (arith, length-set y at b)))
      ]
      | inr n ↦ get_or-set_other x at i b 0 n ∙ h i k ∙ sym (get_or-set_other y at i b 0 n)
    ]

    put_both : (x y : List ℕ) (at : ℕ) (bs : List ℕ) → length x ≡ length y
        → ((i : ℕ) → i < 12 + z.cap → get_or x i 0 ≡ get_or y i 0) → (i : ℕ) → i < 12 + z.cap
        → get_or (put x at bs) i 0 ≡ get_or (put y at bs) i 0
    put_both x y at [] l h = h
    put_both x y at (b ∷ bs) l h = put_both (set x at b) (set y at b) (at + 1) bs
        (length-set x at b ∙ l ∙ sym (length-set y at b)) (step x y at b l h)

-- a parity changes no data
pub stage_parity-data : (z : Zone) (x : List ℕ) (p : Part) → SameData z (stage_image z (ParityOf p) x) x
unfolding stage_stores
stage_parity-data z x p =
    let at : part_parity_at z p ≡ 12 + z.cap + part_number z p * z.parity = part_parity_at-number z p in
    let e : stage_image z (ParityOf p) x ≡ put x (part_parity_at z p) (parity_of z.parity (part_bytes z x p)) =
    after_stores-byte_stores x (part_parity_at z p) (parity_of z.parity (part_bytes z x p)) in
    rw e (record { total = length-put x _ _; each = λ i h. put-below x _ i _ (omega arith) })

pub set-bytes : (x : List ℕ) (at b : ℕ) → AreBytes x → b < 256 → AreBytes (set x at b)
set-bytes x at b h l i = elim (cases_eq i at) [
  | inl e ↦ elim (cases_lt i (length x)) [
    | inl m ↦ (let p : at < length x = omega arith in rw (e, get_or-set_same x at b 0 p) l)
    | inr g ↦ (let z : get_or (set x at b) i 0 ≡ 0 = get_or_past (set x at b) i 0
        (omega (arith, length-set x at b)) in omega arith)
  ]
  | inr n ↦ rw (get_or-set_other x at i b 0 n) (h i)
]

pub put-bytes : (x : List ℕ) (at : ℕ) (bs : List ℕ) → AreBytes x → AreBytes bs → AreBytes (put x at bs)
unfolding put
put-bytes x at [] h k = h
put-bytes x at (b ∷ bs) h k = put-bytes (set x at b) (at + 1) bs (set-bytes x at b h (k 0)) (λ i. k (suc i))

module _ (z : Zone) (valid : IsValidZone z) (parity : HasParity z.parity) where
  pub part_short : (x : List ℕ) (p : Part) → length (part_bytes z x p) + z.parity ≤ 255
  unfolding part_bytes
  part_short x Header = omega (arith, length-take ((0 + 12) - 0) (drop 0 x), valid.parity)
  part_short x (Block b) = omega (
    arith,
    length-take ((12 + z.block * b
        + (min (z.block * (b + 1)) z.cap - z.block * b)) - (12 + z.block * b)) (drop (12 + z.block * b) x),
    valid.parity,
    block_most valid.block,
    (let e : z.block * (b + 1) ≡ z.block * b + z.block = grind arith in e),
  )
    where
      block_most : (z.block ≡ 32) ⊎ (z.block ≡ 64) ⊎ (z.block ≡ 128) → z.block ≤ 128
      block_most h = grind (arith, h)

  -- the image after a part's parity
  parity_image : (x : List ℕ) (p : Part) → stage_image z (ParityOf p) x
      ≡ put x (part_parity_at z p) (parity_of z.parity (part_bytes z x p))
  unfolding stage_stores
  parity_image x p = after_stores-byte_stores x (part_parity_at z p) (parity_of z.parity (part_bytes z x p))

  -- what the parity of a part leaves
  pub parity-bytes : (x : List ℕ) (p : Part) → AreBytes x → AreBytes (stage_image z (ParityOf p) x)
  unfolding part_bytes
  parity-bytes x p bytes =
      let made : (length (parity_of z.parity (part_bytes z x p)) ≡ z.parity)
      × AreBytes (parity_of z.parity (part_bytes z x p))
      × IsTrue (is_codeword z.parity (part_bytes z x p ++ parity_of z.parity (part_bytes z x p))) =
      parity (part_bytes z x p) (slice_range-bytes x _ _ bytes) (part_short x p) in
      subst AreBytes (sym (parity_image x p)) (put-bytes x _ _ bytes made.1)

  pub parity-own : (x : List ℕ) (p : Part) → HasPart z p → length x ≡ z.size → AreBytes x
      → ReadsAsStands z (stage_image z (ParityOf p) x) p
  parity-own x p has len bytes = subst (λ y. ReadsAsStands z y p) (sym (parity_image x p))
      (ReadsAsStands-parity z x p valid has parity len bytes (part_short x p))

  pub parity-other : (x : List ℕ) (p q : Part) → AreBytes x → part_number z p ≢ part_number z q
      → SamePart z (stage_image z (ParityOf p) x) x q
  unfolding part_bytes
  parity-other x p q bytes ne =
      let made : (length (parity_of z.parity (part_bytes z x p)) ≡ z.parity)
      × AreBytes (parity_of z.parity (part_bytes z x p))
      × IsTrue (is_codeword z.parity (part_bytes z x p ++ parity_of z.parity (part_bytes z x p))) =
      parity (part_bytes z x p) (slice_range-bytes x _ _ bytes) (part_short x p) in
      subst (λ y. SamePart z y x q) (sym (parity_image x p))
      (SamePart-parity z x _ p q (omega (arith, valid.room)) made.0 ne)

-- what a list of stages leaves of the parts: those of some blocks fresh, and all others as they were
pub record LeavesParts (z : Zone) (x y : List ℕ) (low high : ℕ) : Type 0 where
  pub data_same : SameData z y x
  pub bytes : AreBytes y
  pub header : SamePart z y x Header
  pub others : (b : ℕ) → b < z.blocks → (b < low) ⊎ (high ≤ b) → SamePart z y x (Block b)
  pub fresh : (b : ℕ) → low ≤ b → b < high → ReadsAsStands z y (Block b)

-- the parities of the n blocks from a on
pub parities_leave : (z : Zone) → IsValidZone z → HasParity z.parity → (n a : ℕ) (x : List ℕ) → a + n ≤ z.blocks
    → length x ≡ z.size → AreBytes x
    → LeavesParts z x (all_stages z (map (λ k. ParityOf (Block k)) (range_with_len a n)) x) a (a + n)
unfolding all_stages
parities_leave z valid parity zero a x fits len bytes = record {
  data_same = SameData-refl z x;
  bytes = bytes;
  header = record { bytes = refl; word = refl };
  others = λ b h k. record { bytes = refl; word = refl };
  fresh = λ b h k. absurd (omega arith);
}
parities_leave z valid parity (suc n) a x fits len bytes =
    let x1 : List ℕ = stage_image z (ParityOf (Block a)) x in
    let same : SameData z x1 x = stage_parity-data z x (Block a) in
    let rest : LeavesParts z x1 (all_stages z (map (λ k. ParityOf (Block k)) (range_with_len (a + 1) n)) x1) (a + 1)
    ((a + 1) + n) =
    parities_leave z valid parity n (a + 1) x1 (omega arith) (same.total ∙ len)
    (parity-bytes z valid parity x (Block a) bytes) in
    record {
      data_same = SameData-trans rest.data_same same;
      bytes = rest.bytes;
      header = SamePart-trans rest.header (parity-other z valid parity x (Block a) Header bytes (omega arith));
      others = λ b h k. elim k [
        | inl l ↦ SamePart-trans (rest.others b h (inl (omega arith)))
            (parity-other z valid parity x (Block a) (Block b) bytes (omega arith))
        | inr g ↦ SamePart-trans (rest.others b h (inr (omega arith)))
            (parity-other z valid parity x (Block a) (Block b) bytes (omega arith))
      ];
      fresh = λ b h k. elim (cases_eq b a) [
        | inl e ↦ rw e (ReadsAsStands-same (rest.others a (omega arith) (inl (omega arith)))
            (parity-own z valid parity x (Block a) (omega arith) len bytes))
        | inr ne ↦ rest.fresh b (omega arith) (omega arith)
      ];
    }
