-- What an append leaves of words and data
use Rattle.std.proofs.Common.{◌≡◌, ℕ, ◌+◌, ◌-◌, ◌%◌, ◌^◌, ◌<◌, ◌≤◌, min, Bool, true, false, ◌==◌, List, ◌++◌, length}
use Rattle.std.proofs.Common.{take, drop, get_or, refl, sym, ap, ◌∙◌, arith, inl, inr, length-append, length-drop}
use Rattle.std.proofs.Common.{length-take, get_or-drop, get_or-take, w32, take_all, mod-lt, eqb-true}
use Rattle.std.proofs.lemmas.Bool.{cases_lt}
use Rattle.std.proofs.lemmas.List.{drop-drop, drop_at}
use Rattle.std.proofs.Math.Nat.{mod-eq_of_lt}
use Rattle.zone_spec.specs.declared.Zone.{Zone}
use Rattle.zone_spec.specs.declared.params.ByteOrder.{ByteOrder}
use Rattle.zone_spec.specs.declared.Words.{Words}
use Rattle.zone_spec.specs.declared.Kind.{Kind}
use Rattle.zone_spec.specs.declared.Kind.TheVariants.{Dump, Console, Ftrace, Pmsg}
use Rattle.zone_spec.specs.Parts.{standing_words}
use Rattle.zone_spec.specs.Told.{Call, last_items}
use Rattle.zone_spec.specs.Stores.{put, after_stores}
use Rattle.zone_spec.specs.Calls.{call_stages, call_stores, image_after}
use Rattle.zone_spec.specs.Ring.{IsOpenUnlessDump}
use Rattle.ring_laws.proofs.Images.{length-put, put-below, put-above, put-inside}
use Rattle.ring_laws.proofs.RingBytes.{AppendedBytes, mod_once}
use Rattle.ring_laws.proofs.AppendLaw.{size_put, appended, all_stages, after_stores-stores_in_turn, word_of-stored}
use Rattle.ring_laws.proofs.AppendLaw.{word_of-same}
use Rattle.zone_spec.specs.WordBytes.{word_bytes}

-- a byte that an append leaves at a place of the image that no run meets
pub appended-header : (z : Zone) (start size : ℕ) (q image : List ℕ) (i : ℕ) → i < 12 →
    get_or (appended z start size q image) i 0
    ≡ get_or (put (size_put z.byte_order (size == z.cap) (min z.cap (size + length q)) image) 4
    (word_bytes z.byte_order ((start + length q) % z.cap))) i 0
appended-header z start size q image i h =
    put-below _ (12 + 0) i (drop (z.cap - start) q) (omega arith)
    ∙ put-below _ (12 + start) i (take (z.cap - start) q) (omega arith)

pub length-size_put : (order : ByteOrder) (full : Bool) (size : ℕ) (image : List ℕ) → length (size_put order full size image) ≡ length image
length-size_put order true size image = refl
length-size_put order false size image = length-put image 8 (word_bytes order size)

size_put-data : (order : ByteOrder) (full : Bool) (size : ℕ) (image : List ℕ) (i : ℕ) → 12 ≤ i
    → get_or (size_put order full size image) i 0 ≡ get_or image i 0
size_put-data order true size image i h = refl
size_put-data order false size image i h = put-above image 8 i (word_bytes order size) h

size_put-below : (order : ByteOrder) (full : Bool) (size : ℕ) (image : List ℕ) (i : ℕ) → i < 8
    → get_or (size_put order full size image) i 0 ≡ get_or image i 0
size_put-below order true size image i h = refl
size_put-below order false size image i h = put-below image 8 i (word_bytes order size) h

-- the data after an append, by its two runs
module _ (z : Zone) (start size : ℕ) (q image : List ℕ) (room : 12 + z.cap ≤ length image) (below : start < z.cap)
    (short : length q ≤ z.cap) where
  first_run : List ℕ
  first_run = take (z.cap - start) q

  words_put : List ℕ
  words_put = put (size_put z.byte_order (size == z.cap) (min z.cap (size + length q)) image) 4
      (word_bytes z.byte_order ((start + length q) % z.cap))

  words_put-data : (i : ℕ) → 12 ≤ i → get_or words_put i 0 ≡ get_or image i 0
  unfolding words_put
  words_put-data i h =
      put-above (size_put z.byte_order (size == z.cap) (min z.cap (size + length q)) image) 4 i
      (word_bytes z.byte_order ((start + length q) % z.cap)) (omega arith)
      ∙ size_put-data z.byte_order (size == z.cap) (min z.cap (size + length q)) image i h

  length-words_put : length words_put ≡ length image
  unfolding words_put
  length-words_put = length-put _ 4 (word_bytes z.byte_order ((start + length q) % z.cap))
      ∙ length-size_put z.byte_order (size == z.cap) (min z.cap (size + length q)) image

  pub appended-AppendedBytes : AppendedBytes (λ p. get_or image (12 + p) 0)
      (λ p. get_or (appended z start size q image) (12 + p) 0) start z.cap q
  unfolding words_put first_run
  appended-AppendedBytes = record {
    first = λ p h k l.
        let j : 12 + p ≡ (12 + start) + (p - start) = omega arith in
        put-above _ (12 + 0) (12 + p) (drop (z.cap - start) q) (omega (arith, length-drop (z.cap - start) q))
        ∙ ap (λ i. get_or (put words_put (12 + start) first_run) i 0) j
        ∙ put-inside words_put (12 + start) (p - start) first_run
        (omega (arith, length-take (z.cap - start) q, length-words_put))
        (omega (arith, length-take (z.cap - start) q))
        ∙ get_or-take (z.cap - start) q (p - start) 0 (omega arith);
    second = λ p h.
        put-inside (put words_put (12 + start) first_run) (12 + 0) p (drop (z.cap - start) q)
        (omega (
          arith,
          length-drop (z.cap - start) q,
          length-words_put,
          length-put words_put (12 + start) first_run,
        )) (omega (arith, length-drop (z.cap - start) q))
        ∙ get_or-drop (z.cap - start) q p 0;
    others = λ p h k side.
        put-above _ (12 + 0) (12 + p) (drop (z.cap - start) q) (omega (arith, length-drop (z.cap - start) q))
        ∙ (elim side [
          | inl a ↦ put-below words_put (12 + start) (12 + p) first_run (omega arith)
          | inr b ↦ put-above words_put (12 + start) (12 + p) first_run (omega (arith, length-take (z.cap - start) q))
        ])
        ∙ words_put-data (12 + p) (omega arith);
  }

  -- the words that then stand
  pub appended-sig : (standing_words z (appended z start size q image)).sig ≡ (standing_words z image).sig
  appended-sig = word_of-same z.byte_order _ image 0 (omega arith) (λ i k.
      appended-header z start size q image (0 + i) (omega arith)
      ∙ put-below _ 4 (0 + i) (word_bytes z.byte_order ((start + length q) % z.cap)) (omega arith)
      ∙ size_put-below z.byte_order (size == z.cap) (min z.cap (size + length q)) image (0 + i) (omega arith))

  pub appended-start : z.cap < 2 ^ 32 → (standing_words z (appended z start size q image)).start
      ≡ (start + length q) % z.cap
  appended-start l = word_of-stored z.byte_order _ 4 ((start + length q) % z.cap) (omega arith)
      (let m : (start + length q) % z.cap < z.cap = mod-lt (start + length q)
      (let y : 0 < z.cap = omega arith in y) in omega arith)
      (λ i k.
      appended-header z start size q image (4 + i) (omega arith)
      ∙ put-inside _ 4 i (word_bytes z.byte_order ((start + length q) % z.cap))
      (omega (arith, length-size_put z.byte_order (size == z.cap) (min z.cap (size + length q)) image)) k)

  pub appended-size : z.cap < 2 ^ 32 → size ≤ z.cap → (standing_words z image).size ≡ size
      → (standing_words z (appended z start size q image)).size ≡ min z.cap (size + length q)
  appended-size l fits was = by (size == z.cap) refl
    where
      untouched : (full : Bool) (i : ℕ) → i < 4 → get_or (put (size_put z.byte_order full (min z.cap (size + length q)) image) 4
          (word_bytes z.byte_order ((start + length q) % z.cap))) (8 + i) 0
          ≡ get_or (size_put z.byte_order full (min z.cap (size + length q)) image) (8 + i) 0
      untouched full i k = put-above (size_put z.byte_order full (min z.cap (size + length q)) image) 4 (8 + i)
          (word_bytes z.byte_order ((start + length q) % z.cap)) (omega arith)

      by : (full : Bool) → (size == z.cap) ≡ full → (standing_words z (appended z start size q image)).size
          ≡ min z.cap (size + length q)
      by true e = word_of-same z.byte_order _ image 8 (omega arith) (λ i k.
          appended-header z start size q image (8 + i) (omega arith) ∙ untouched (size == z.cap) i k
          ∙ ap (λ full. get_or (size_put z.byte_order full (min z.cap (size + length q)) image) (8 + i) 0) e)
          ∙ was ∙ (let s : size ≡ z.cap = eqb-true size z.cap e in omega arith)
      by false e = word_of-stored z.byte_order _ 8 (min z.cap (size + length q)) (omega arith) (omega arith) (λ i k.
          appended-header z start size q image (8 + i) (omega arith) ∙ untouched (size == z.cap) i k
          ∙ ap (λ full. get_or (size_put z.byte_order full (min z.cap (size + length q)) image) (8 + i) 0) e
          ∙ put-inside image 8 i (word_bytes z.byte_order (min z.cap (size + length q))) (omega arith) k)

-- ---- the law

-- an append leaves a ring that can be appended to
pub open_after : (s n k cap : ℕ) → s < cap → n ≤ cap → s ≤ n → (n < cap → s ≡ n) → k ≤ cap
    → ((s + k) % cap ≤ min cap (n + k)) × ((s + k) % cap < cap)
    × (min cap (n + k) < cap → (s + k) % cap ≡ min cap (n + k))
open_after s n k cap below fits inside is_open short = elim (cases_lt (s + k) cap) [
  | inl a ↦ (let e : (s + k) % cap ≡ s + k = mod-eq_of_lt a in
      rw e (omega arith, a, λ h. elim (cases_lt n cap) [ inl l ↦ omega (arith, is_open l) | inr g ↦ omega arith ]))
  | inr b ↦ (let e : (s + k) % cap ≡ (s + k) - cap = mod_once (s + k) cap b (omega arith) in
      let full : cap ≤ n + k = elim (cases_lt n cap) [ inl l ↦ omega (arith, is_open l) | inr g ↦ omega arith ] in
      rw e (omega arith, omega arith, λ h. absurd (omega arith)))
]

pub open_at : (kind : Kind) (w : Words) (cap : ℕ) → w.start < cap → (w.size < cap → w.start ≡ w.size)
    → IsOpenUnlessDump kind w cap
open_at Dump w cap h k = tt
open_at Console w cap h k = (h, k)
open_at Ftrace w cap h k = (h, k)
open_at Pmsg w cap h k = (h, k)

pub last_items-short : (cap : ℕ) (xs : List ℕ) → length xs ≤ cap → last_items cap xs ≡ xs
last_items-short cap xs h = let e : length xs - cap ≡ 0 = omega arith in rw e

-- only the last items of what is appended count
pub last_items-append : (cap : ℕ) (xs ys : List ℕ) → last_items cap (xs ++ last_items cap ys)
    ≡ last_items cap (xs ++ ys)
last_items-append cap xs ys = elim (cases_lt cap (length ys)) [
  | inl a ↦
      (let k : length (drop (length ys - cap) ys) ≡ cap = omega (arith, length-drop (length ys - cap) ys) in
      let l : length (xs ++ drop (length ys - cap) ys) - cap ≡ length xs =
      omega (arith, length-append xs (drop (length ys - cap) ys)) in
      let m : length (xs ++ ys) - cap ≡ length xs + (length ys - cap) = omega (arith, length-append xs ys) in
      rw (l, m) (drop_at xs _ (length xs) refl ∙ sym (sym (drop-drop (length ys - cap) (length xs) (xs ++ ys))
      ∙ ap (drop (length ys - cap)) (drop_at xs ys (length xs) refl))))
  | inr b ↦ ap (λ zs. last_items cap (xs ++ zs)) (last_items-short cap ys b)
]

-- the image after all stores of a call
pub image_after-all : (z : Zone) (call : Call) (image : List ℕ)
    → image_after z call image (length (call_stores z call image))
    ≡ all_stages z (call_stages z (standing_words z image) call) image
unfolding call_stores
image_after-all z call image =
    ap (after_stores image) (take_all (length (call_stores z call image)) (call_stores z call image) (omega arith))
    ∙ after_stores-stores_in_turn z (call_stages z (standing_words z image) call) image
