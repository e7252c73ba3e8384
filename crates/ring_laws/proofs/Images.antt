-- What stores leave
use Rattle.std.proofs.Common.{◌≡◌, ℕ, zero, suc, ◌+◌, ◌<◌, ◌≤◌, List, [], ◌∷◌, ◌++◌, length, set, get_or, refl, sym, ap}
use Rattle.std.proofs.Common.{◌∙◌, arith, length-set, get_or-set_other, get_or-set_same, ◌≢◌, length-append}
use Rattle.std.proofs.Common.{append_assoc}
use Rattle.zone_spec.specs.declared.Zone.{Zone}
use Rattle.zone_spec.specs.Told.{Call}
use Rattle.zone_spec.specs.Stores.{Store, put, after_stores, byte_stores}
use Rattle.zone_spec.specs.Calls.{IsUnderway}

pub length-put : (image : List ℕ) (at : ℕ) (bs : List ℕ) → length (put image at bs) ≡ length image
unfolding put
length-put image at [] = refl
length-put image at (b ∷ bs) = length-put (set image at b) (at + 1) bs ∙ length-set image at b

-- below the place and behind the bytes nothing changes
pub put-below : (image : List ℕ) (at i : ℕ) (bs : List ℕ) → i < at → get_or (put image at bs) i 0 ≡ get_or image i 0
unfolding put
put-below image at i [] h = refl
put-below image at i (b ∷ bs) h =
    put-below (set image at b) (at + 1) i bs (omega arith)
    ∙ (let ne : i ≢ at = omega arith in get_or-set_other image at i b 0 ne)

pub put-above : (image : List ℕ) (at i : ℕ) (bs : List ℕ) → at + length bs ≤ i
    → get_or (put image at bs) i 0 ≡ get_or image i 0
unfolding put
put-above image at i [] h = refl
put-above image at i (b ∷ bs) h =
    put-above (set image at b) (at + 1) i bs (omega arith)
    ∙ (let ne : i ≢ at = omega arith in get_or-set_other image at i b 0 ne)

-- the bytes stand where they were put
pub put-inside : (image : List ℕ) (at j : ℕ) (bs : List ℕ) → at + length bs ≤ length image → j < length bs
    → get_or (put image at bs) (at + j) 0 ≡ get_or bs j 0
unfolding put
put-inside image at j [] h k = absurd (omega arith)
put-inside image at zero (b ∷ bs) h k =
    put-below (set image at b) (at + 1) (at + 0) bs (omega arith)
    ∙ (let e : at + 0 ≡ at = omega arith in
    let l : at < length image = omega arith in
    rw e (get_or-set_same image at b 0 l))
put-inside image at (suc j) (b ∷ bs) h k =
    (let e : at + suc j ≡ (at + 1) + j = omega arith in ap (λ i. get_or (put (set image at b) (at + 1) bs) i 0) e)
    ∙ put-inside (set image at b) (at + 1) j bs (omega (arith, length-set image at b)) (omega arith)

pub after_stores-append : (image : List ℕ) (xs ys : List Store)
    → after_stores image (xs ++ ys) ≡ after_stores (after_stores image xs) ys
unfolding after_stores
after_stores-append image [] ys = refl
after_stores-append image (x ∷ xs) ys = after_stores-append (put image x.place x.bytes) xs ys

-- a run of bytes stored one by one leaves what they leave at once
pub after_stores-byte_stores : (image : List ℕ) (at : ℕ) (bs : List ℕ)
    → after_stores image (byte_stores at bs) ≡ put image at bs
unfolding after_stores byte_stores put
after_stores-byte_stores image at [] = refl
after_stores-byte_stores image at (b ∷ bs) = after_stores-byte_stores (set image at b) (at + 1) bs

pub length-after_stores : (image : List ℕ) (ss : List Store) → length (after_stores image ss) ≡ length image
unfolding after_stores
length-after_stores image [] = refl
length-after_stores image (s ∷ ss) = length-after_stores (put image s.place s.bytes) ss
    ∙ length-put image s.place s.bytes

-- ---- a call that is underway

-- one store more
pub IsUnderway-step : {z : Zone} {call : Call} {before now : List ℕ} {made : ℕ} {s : Store} {left : List Store}
    → IsUnderway z call before now made (s ∷ left) → IsUnderway z call before (put now s.place s.bytes) (made + 1) left
unfolding after_stores
IsUnderway-step {z} {call} {before} {now} {made} {s} {left} u = record {
  done = u.done ++ s ∷ [];
  whole = u.whole ∙ sym (append_assoc u.done (s ∷ []) left);
  image = ap (λ x. put x s.place s.bytes) u.image ∙ sym (after_stores-append before u.done (s ∷ []));
  count = omega (arith, u.count, length-append u.done (s ∷ []));
}
