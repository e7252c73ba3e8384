-- The image after the stages of a call, and after those of an append
use Rattle.std.proofs.Common.{◌≡◌, ℕ, ◌+◌, ◌-◌, ◌%◌, ◌^◌, ◌<◌, ◌≤◌, min, Bool, true, false, cond, ◌==◌, List, [], ◌∷◌}
use Rattle.std.proofs.Common.{◌++◌, length, take, drop, get_or, slice_range, refl, sym, ap, ◌∙◌, arith, get_or-drop}
use Rattle.std.proofs.Common.{get_or-take, w32}
use Rattle.std.specs.Int.{from_le_bytes}
use Rattle.zone_spec.specs.declared.Zone.{Zone}
use Rattle.zone_spec.specs.declared.params.ByteOrder.{ByteOrder}
use Rattle.zone_spec.specs.Stages.{Stage, StartWord, SizeWord, stage_stores, stores_in_turn}
use Rattle.zone_spec.specs.Stores.{put, after_stores}
use Rattle.word_laws.proofs.WordBytes.{word_of-word_bytes}
use Rattle.ring_laws.proofs.Images.{after_stores-append, length-after_stores}
use Rattle.zone_spec.specs.WordBytes.{turned, word_bytes, word_of}

-- ---- stages

-- the image after all stores of a stage, and of a list of stages
abbrev pub stage_image : Zone → Stage → List ℕ → List ℕ
stage_image z g image = after_stores image (stage_stores z g image)

unfoldable pub all_stages : Zone → List Stage → List ℕ → List ℕ
all_stages z [] image = image
all_stages z (g ∷ gs) image = all_stages z gs (stage_image z g image)

pub after_stores-stores_in_turn : (z : Zone) (gs : List Stage) (image : List ℕ)
    → after_stores image (stores_in_turn z gs image) ≡ all_stages z gs image
unfolding stores_in_turn after_stores all_stages
after_stores-stores_in_turn z [] image = refl
after_stores-stores_in_turn z (g ∷ gs) image =
    after_stores-append image (stage_stores z g image) (stores_in_turn z gs (stage_image z g image))
    ∙ after_stores-stores_in_turn z gs (stage_image z g image)

pub all_stages-append : (z : Zone) (gs hs : List Stage) (image : List ℕ)
    → all_stages z (gs ++ hs) image ≡ all_stages z hs (all_stages z gs image)
unfolding all_stages
all_stages-append z [] hs image = refl
all_stages-append z (g ∷ gs) hs image = all_stages-append z gs hs (stage_image z g image)

pub length-all_stages : (z : Zone) (gs : List Stage) (image : List ℕ) → length (all_stages z gs image) ≡ length image
unfolding all_stages
length-all_stages z [] image = refl
length-all_stages z (g ∷ gs) image = length-all_stages z gs (stage_image z g image)
    ∙ length-after_stores image (stage_stores z g image)

-- the header's words put by an append
abbrev pub size_put : ByteOrder → Bool → ℕ → List ℕ → List ℕ
size_put order full size image = cond full image (put image 8 (word_bytes order size))

pub all_stages-size : (z : Zone) (full : Bool) (size : ℕ) (image : List ℕ)
    → all_stages z (cond full [] (SizeWord size ∷ [])) image ≡ size_put z.byte_order full size image
unfolding all_stages stage_stores after_stores
all_stages-size z true size image = refl
all_stages-size z false size image = refl

-- the image after an append of these bytes
abbrev pub appended : Zone → ℕ → ℕ → List ℕ → List ℕ → List ℕ
appended z start size q image =
    put (put (put (size_put z.byte_order (size == z.cap) (min z.cap (size + length q)) image) 4
    (word_bytes z.byte_order ((start + length q) % z.cap)))
    (12 + start) (take (z.cap - start) q)) (12 + 0) (drop (z.cap - start) q)

pub start_last : (z : Zone) (x : List ℕ) (n : ℕ) → all_stages z (StartWord n ∷ []) x ≡ put x 4 (word_bytes z.byte_order n)
unfolding all_stages stage_stores after_stores
start_last z x n = refl

-- ---- the words

pub word_of-bytes : (order : ByteOrder) (xs ys : List ℕ) → ((i : ℕ) → i < 4 → get_or xs i 0 ≡ get_or ys i 0)
    → word_of order xs ≡ word_of order ys
word_of-bytes order xs ys h = ap (turned order) (
    let e0 : get_or xs 0 0 ≡ get_or ys 0 0 = h 0 (omega arith) in
    let e1 : get_or xs 1 0 ≡ get_or ys 1 0 = h 1 (omega arith) in
    let e2 : get_or xs 2 0 ≡ get_or ys 2 0 = h 2 (omega arith) in
    let e3 : get_or xs 3 0 ≡ get_or ys 3 0 = h 3 (omega arith) in
    let same : from_le_bytes w32 xs ≡ from_le_bytes w32 ys = cc in same)

-- a byte of the header's word at this place
get_or-word : (image : List ℕ) (at i : ℕ) → at + 4 ≤ 12 → i < 4
    → get_or (slice_range (slice_range image 0 12) at (at + 4)) i 0 ≡ get_or image (at + i) 0
get_or-word image at i h k =
    get_or-take ((at + 4) - at) (drop at (take 12 (drop 0 image))) i 0 (omega arith)
    ∙ get_or-drop at (take 12 (drop 0 image)) i 0
    ∙ get_or-take 12 (drop 0 image) (at + i) 0 (omega arith)
    ∙ get_or-drop 0 image (at + i) 0
    ∙ ap (λ j. get_or image j 0) (let e : 0 + (at + i) ≡ at + i = omega arith in e)

pub word_of-stored : (order : ByteOrder) (image : List ℕ) (at n : ℕ) → at + 4 ≤ 12 → n < 2 ^ 32
    → ((i : ℕ) → i < 4 → get_or image (at + i) 0 ≡ get_or (word_bytes order n) i 0)
    → word_of order (slice_range (slice_range image 0 12) at (at + 4)) ≡ n
word_of-stored order image at n h l same =
    word_of-bytes order _ (word_bytes order n) (λ i k. get_or-word image at i h k ∙ same i k)
    ∙ word_of-word_bytes order n l

pub word_of-same : (order : ByteOrder) (image image' : List ℕ) (at : ℕ) → at + 4 ≤ 12
    → ((i : ℕ) → i < 4 → get_or image (at + i) 0 ≡ get_or image' (at + i) 0)
    → word_of order (slice_range (slice_range image 0 12) at (at + 4))
    ≡ word_of order (slice_range (slice_range image' 0 12) at (at + 4))
word_of-same order image image' at h same =
    word_of-bytes order _ _ (λ i k. get_or-word image at i h k ∙ same i k ∙ sym (get_or-word image' at i h k))
