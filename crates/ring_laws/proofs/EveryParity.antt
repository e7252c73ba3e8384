-- An append keeps a zone in ring form for what it was told, at every parity
use Rattle.std.proofs.Common.{◌≡◌, ℕ, zero, suc, ◌+◌, ◌-◌, ◌*◌, ◌%◌, ◌^◌, ◌<◌, ◌≤◌, min, Bool, true, false, cond, ◌==◌}
use Rattle.std.proofs.Common.{◌⊎◌, List, [], ◌∷◌, ◌++◌, length, take, drop, get_or, refl, sym, ap, ◌∙◌, subst, arith}
use Rattle.std.proofs.Common.{inl, inr, length-take, length-drop, w32, mul_comm, get_or-take, get_or-drop}
use Rattle.std.proofs.Common.{mul-le-mul_right}
use Rattle.std.proofs.lemmas.Bool.{cases_lt}
use Rattle.std.proofs.lemmas.List.{get_or_past}
use Rattle.zone_spec.specs.declared.Zone.{Zone}
use Rattle.zone_spec.specs.declared.params.ByteOrder.{ByteOrder}
use Rattle.zone_spec.specs.Zones.{IsValidZone}
use Rattle.zone_spec.specs.Parts.{AreBytes, Header, Block, standing_words, words_in}
use Rattle.zone_spec.specs.Told.{last_items}
use Rattle.zone_spec.specs.Stages.{Stage, StartWord, SizeWord, ParityOf}
use Rattle.zone_spec.specs.Stores.{put}
use Rattle.zone_spec.specs.Calls.{run_stages, append_stages}
use Rattle.zone_spec.specs.Ring.{IsRingForm, ReadsAsStands}
use Rattle.ring_laws.proofs.Images.{length-put, put-above}
use Rattle.ring_laws.proofs.RingBytes.{RingBytes, AppendedBytes, RingBytes-append, log-RingBytes, RingBytes-log}
use Rattle.ring_laws.proofs.AppendLaw.{length-all_stages, all_stages, all_stages-append, stage_image, size_put}
use Rattle.ring_laws.proofs.AppendLaw.{appended, all_stages-size, start_last}
use Rattle.ring_laws.proofs.RingLaw.{appended-AppendedBytes, appended-sig, appended-start, appended-size, open_after}
use Rattle.ring_laws.proofs.RingLaw.{open_at, length-size_put}
use Rattle.ring_laws.proofs.PartsLaw.{block_some, HasParity, SamePart, SamePart-trans, SamePart-places}
use Rattle.ring_laws.proofs.PartsLaw.{ReadsAsStands-same, SameData, SameData-trans, SameData-put, put-bytes, parity-own}
use Rattle.ring_laws.proofs.PartsLaw.{parity-other, parity-bytes, stage_parity-data, slice_range-same}
use Rattle.ring_laws.proofs.RunLaw.{RunLeaves, run_leaves, cap_within}
use Rattle.zone_spec.specs.WordBytes.{word_bytes}

pub word-bytes : (order : ByteOrder) (n : ℕ) → AreBytes (word_bytes order n)
word-bytes order n zero = omega arith
word-bytes order n (suc zero) = omega arith
word-bytes order n (suc (suc zero)) = omega arith
word-bytes order n (suc (suc (suc zero))) = omega arith
word-bytes order n (suc (suc (suc (suc i)))) = omega arith

pub part-bytes : (n : ℕ) (xs : List ℕ) → AreBytes xs → AreBytes (take n xs) × AreBytes (drop n xs)
part-bytes n xs h = (
  (λ i. elim (cases_lt i n) [
    | inl l ↦ rw (get_or-take n xs i 0 l) (h i)
    | inr g ↦ (let e : get_or (take n xs) i 0 ≡ 0 = get_or_past (take n xs) i 0 (omega (arith, length-take n xs)) in
        omega arith)
  ]),
  (λ i. rw (get_or-drop n xs i 0) (h (n + i))),
)

size_put-bytes : (order : ByteOrder) (full : Bool) (size : ℕ) (x : List ℕ) → AreBytes x → AreBytes (size_put order full size x)
size_put-bytes order true size x h = h
size_put-bytes order false size x h = put-bytes x 8 (word_bytes order size) h (word-bytes order size)

-- header bytes put leave the blocks
header_put-block : (z : Zone) (x : List ℕ) (at : ℕ) (bs : List ℕ) (b : ℕ) → at + length bs ≤ 12
    → SamePart z (put x at bs) x (Block b)
header_put-block z x at bs b h = SamePart-places z _ x (Block b) (length-put x at bs)
    (λ i k l. put-above x at i bs (omega arith)) (λ i k l. put-above x at i bs (omega arith))

size_put-block : (z : Zone) (full : Bool) (size : ℕ) (x : List ℕ) (b : ℕ)
    → SamePart z (size_put z.byte_order full size x) x (Block b)
size_put-block z true size x b = record { bytes = refl; word = refl }
size_put-block z false size x b = header_put-block z x 8 (word_bytes z.byte_order size) b (omega arith)

header_last : (z : Zone) (x : List ℕ) → all_stages z (ParityOf Header ∷ []) x ≡ stage_image z (ParityOf Header) x
unfolding all_stages
header_last z x = refl

-- what an append leaves of the parts
pub record AppendLeaves (z : Zone) (start size : ℕ) (q x y : List ℕ) : Type 0 where
  pub data_same : SameData z y (appended z start size q x)
  pub bytes : AreBytes y
  pub header : ReadsAsStands z y Header
  pub blocks : (b : ℕ) → b < z.blocks → ReadsAsStands z y (Block b) ⊎
      (SamePart z y x (Block b) × ((z.block * (b + 1) ≤ start) ⊎ (min z.cap (start + length q) ≤ z.block * b)))

pub append_leaves : (z : Zone) → IsValidZone z → HasParity z.parity → (start size c : ℕ) (cs x : List ℕ)
    → start < z.cap → length (c ∷ cs) ≤ z.cap → length x ≡ z.size → AreBytes x → AreBytes (c ∷ cs)
    → AppendLeaves z start size (c ∷ cs) x (all_stages z (append_stages z start size (c ∷ cs)) x)
append_leaves z valid parity start size c cs x below short len bytes new =
    let q : List ℕ = c ∷ cs in
    let sizes : List Stage = cond (size == z.cap) [] (SizeWord (min z.cap (size + length q)) ∷ []) in
    let starts : List Stage = StartWord ((start + length q) % z.cap) ∷ [] in
    let r1 : List ℕ = take (z.cap - start) q in
    let r2 : List ℕ = drop (z.cap - start) q in
    let first : List Stage = run_stages z start r1 in
    let second : List Stage = run_stages z 0 r2 in
    let x0 : List ℕ = size_put z.byte_order (size == z.cap) (min z.cap (size + length q)) x in
    let w : List ℕ = put x0 4 (word_bytes z.byte_order ((start + length q) % z.cap)) in
    let w_len : length w ≡ z.size = length-put x0 4 (word_bytes z.byte_order ((start + length q) % z.cap))
    ∙ length-size_put z.byte_order (size == z.cap) (min z.cap (size + length q)) x ∙ len in
    let w_bytes : AreBytes w = put-bytes x0 4 _ (size_put-bytes z.byte_order (size == z.cap) (min z.cap (size + length q)) x bytes)
    (word-bytes z.byte_order ((start + length q) % z.cap)) in
    let w_block : (b : ℕ) → SamePart z w x (Block b) = (λ b. SamePart-trans
    (header_put-block z x0 4 (word_bytes z.byte_order ((start + length q) % z.cap)) b (omega arith))
    (size_put-block z (size == z.cap) (min z.cap (size + length q)) x b)) in
    let len1 : length r1 ≡ min (z.cap - start) (length q) = length-take (z.cap - start) q in
    let len2 : length r2 ≡ length q - (z.cap - start) = length-drop (z.cap - start) q in
    let x2 : List ℕ = all_stages z first w in
    let x3 : List ℕ = all_stages z second x2 in
    let one : RunLeaves z start r1 w x2 = run_leaves z valid parity start r1 w (omega arith) w_len w_bytes
    (part-bytes (z.cap - start) q new).0 in
    let x2_len : length x2 ≡ z.size = length-all_stages z first w ∙ w_len in
    let two : RunLeaves z 0 r2 x2 x3 = run_leaves z valid parity 0 r2 x2 (omega arith) x2_len one.bytes
    (part-bytes (z.cap - start) q new).1 in
    let x3_len : length x3 ≡ z.size = length-all_stages z second x2 ∙ x2_len in
    let y : List ℕ = stage_image z (ParityOf Header) x3 in
    let order : all_stages z (append_stages z start size q) x ≡ y =
    all_stages-append z (sizes ++ starts ++ first ++ second) (ParityOf Header ∷ []) x
    ∙ header_last z (all_stages z (sizes ++ starts ++ first ++ second) x)
    ∙ ap (stage_image z (ParityOf Header)) (
    all_stages-append z (sizes ++ starts ++ first) second x
    ∙ ap (all_stages z second) (all_stages-append z (sizes ++ starts) first x)
    ∙ ap (λ v. all_stages z second (all_stages z first v)) (all_stages-append z sizes starts x)
    ∙ ap (λ v. all_stages z second (all_stages z first (all_stages z starts v)))
    (all_stages-size z (size == z.cap) (min z.cap (size + length q)) x)
    ∙ ap (λ v. all_stages z second (all_stages z first v)) (start_last z x0 ((start + length q) % z.cap))) in
    subst (AppendLeaves z start size q x) (sym order) (record {
      data_same = SameData-trans (stage_parity-data z x3 Header)
          (SameData-trans two.data_same (SameData-put (12 + 0) r2 one.data_same));
      bytes = parity-bytes z valid parity x3 Header two.bytes;
      header = parity-own z valid parity x3 Header tt x3_len two.bytes;
      blocks = λ b h.
          let last : SamePart z y x3 (Block b) = parity-other z valid parity x3 Header (Block b) two.bytes
          (omega arith) in
          let k : z.block * (b + 1) ≡ z.block * b + z.block = grind arith in
          elim (cases_lt (z.block * b) (length r2)) [
            | inl m2 ↦ inl (ReadsAsStands-same last (two.met b h (omega (arith, block_some z valid)) (omega arith)
                (omega arith)))
            | inr u2 ↦
                (let same2 : SamePart z y x2 (Block b) = SamePart-trans last (two.unmet b h (inr (omega arith))) in
                elim (cases_lt start (z.block * (b + 1))) [
                  | inl a ↦ elim (cases_lt (z.block * b) (start + length r1)) [
                    | inl m1 ↦ inl (ReadsAsStands-same same2 (one.met b h a m1 (omega (arith, u2, m1))))
                    | inr u1 ↦ inr (
                      SamePart-trans same2 (SamePart-trans (one.unmet b h (inr u1)) (w_block b)),
                      inr (omega arith),
                    )
                  ]
                  | inr g ↦ inr (SamePart-trans same2 (SamePart-trans (one.unmet b h (inl g)) (w_block b)), inl g)
                ])
          ];
    })

-- images with the same data have the same standing words
pub standing_words-same : (z : Zone) (x y : List ℕ) → SameData z x y → standing_words z x ≡ standing_words z y
standing_words-same z x y s = ap (words_in z.byte_order) (slice_range-same x y 0 12 s.total (λ i h k. s.each i (omega arith)))

pub block_has : (z : Zone) → IsValidZone z → (b : ℕ) → z.block * b < z.cap → b < z.blocks
block_has z valid b h = elim (cases_lt b z.blocks) [
  | inl l ↦ l
  | inr g ↦ (let m : z.blocks * z.block ≤ b * z.block = mul-le-mul_right z.block g in
      absurd (omega (arith, cap_within z valid, mul_comm b z.block)))
]

-- an append of bytes that fit
pub append_keeps : (z : Zone) (image told : List ℕ) (c : ℕ) (cs : List ℕ) → IsValidZone z → HasParity z.parity
    → length image ≡ z.size → AreBytes image → AreBytes (c ∷ cs) → length (c ∷ cs) ≤ z.cap
    → IsRingForm z image told → (standing_words z image).start < z.cap
    → ((standing_words z image).size < z.cap → (standing_words z image).start ≡ (standing_words z image).size)
    → IsRingForm z (all_stages z (append_stages z (standing_words z image).start (standing_words z image).size (c ∷ cs))
    image) (last_items z.cap (told ++ c ∷ cs))
append_keeps z image told c cs valid parity len bytes new short ring below is_open =
    let s : ℕ = (standing_words z image).start in
    let n : ℕ = (standing_words z image).size in
    let q : List ℕ = c ∷ cs in
    let y : List ℕ = all_stages z (append_stages z s n q) image in
    let a : List ℕ = appended z s n q image in
    let leaves : AppendLeaves z s n q image y = append_leaves z valid parity s n c cs image below short len bytes new in
    let room : 12 + z.cap ≤ length image = omega (arith, valid.cap) in
    let cap_small : z.cap < 2 ^ 32 = omega (arith, valid.cap, valid.at_most) in
    let old : RingBytes (λ p. get_or image (12 + p) 0) s n told =
    RingBytes-log _ s n told ring.ring.0 ring.told_length ring.bytes in
    let added : AppendedBytes (λ p. get_or image (12 + p) 0) (λ p. get_or a (12 + p) 0) s z.cap q =
    appended-AppendedBytes z s n q image room below short in
    let a_ring : RingBytes (λ p. get_or a (12 + p) 0) ((s + length q) % z.cap) (min z.cap (n + length q))
    (last_items z.cap (told ++ q)) =
    RingBytes-append _ _ s n z.cap told q old added below ring.ring.1 ring.ring.0 is_open short in
    let words : standing_words z y ≡ standing_words z a = standing_words-same z y a leaves.data_same in
    let start_is : (standing_words z y).start ≡ (s + length q) % z.cap =
    ap (λ w. w.start) words ∙ appended-start z s n q image room below short cap_small in
    let size_is : (standing_words z y).size ≡ min z.cap (n + length q) =
    ap (λ w. w.size) words ∙ appended-size z s n q image room below short cap_small ring.ring.1 refl in
    let sig_is : (standing_words z y).sig ≡ (standing_words z image).sig =
    ap (λ w. w.sig) words ∙ appended-sig z s n q image room below short in
    let within : ((s + length q) % z.cap ≤ min z.cap (n + length q)) × ((s + length q) % z.cap < z.cap)
    × (min z.cap (n + length q) < z.cap → (s + length q) % z.cap ≡ min z.cap (n + length q)) =
    open_after s n (length q) z.cap below ring.ring.1 ring.ring.0 is_open short in
    let y_ring : RingBytes (λ p. get_or y (12 + p) 0) ((s + length q) % z.cap) (min z.cap (n + length q))
    (last_items z.cap (told ++ q)) = record {
      total = a_ring.total;
      before = λ p h. leaves.data_same.each (12 + p) (omega (arith, within.1)) ∙ a_ring.before p h;
      behind = λ p h k. leaves.data_same.each (12 + p) (omega arith) ∙ a_ring.behind p h k;
    } in
    record {
      ring = (rw (start_is, size_is) within.0, rw size_is (omega arith));
      signed = sig_is ∙ ring.signed;
      told_length = size_is ∙ sym y_ring.total;
      bytes = rw (start_is, size_is) (log-RingBytes _ _ _ _ within.0 y_ring);
      is_open = open_at z.name.kind (standing_words z y) z.cap (rw start_is within.1) (rw (start_is, size_is) within.2);
      header = leaves.header;
      blocks = λ b h.
          let below_new : z.block * b < min z.cap (n + length q) = rw size_is at h in
          elim (leaves.blocks b (block_has z valid b (omega arith))) [
            | inl fresh ↦ fresh
            | inr kept ↦ ReadsAsStands-same kept.0 (ring.blocks b (elim kept.1 [
              | inl l ↦ (let k : z.block * (b + 1) ≡ z.block * b + z.block = grind arith in
                  omega (arith, block_some z valid, ring.ring.0))
              | inr g ↦ elim (cases_lt n z.cap) [ inl m ↦ omega (arith, is_open m) | inr f ↦ omega arith ]
            ]))
          ];
    }
