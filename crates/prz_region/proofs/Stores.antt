-- What a store of zone_spec makes of a list, as the list's parts and as single bytes
use Rattle.std.proofs.Common.{◌≡◌, ℕ, ◌+◌, ◌<◌, ◌≤◌, zero, suc, lit<, refl, List, [], ◌∷◌, ◌++◌, length, get_or}
use Rattle.std.proofs.Common.{set, take, drop, sym, ap, ◌∙◌, arith, append_assoc, add-one, add-zero, length-set}
use lib.ListN.{take-append-drop}
use mathlib.Core.List.{append-nil}
use Rattle.std.proofs.lemmas.List.{drop-set-lt, drop_more}
use Rattle.std.proofs.Math.ListN.{drop_of_length-le}
use Rattle.std.proofs.Math.Seq.{take-suc-set}
use Rattle.zone_spec.specs.Parts.{AreBytes}
use Rattle.zone_spec.specs.Stores.{Store, put, after_stores, byte_stores}
use Rattle.zone_spec.specs.declared.params.ByteOrder.{ByteOrder}
use Rattle.zone_spec.specs.WordBytes.{word_bytes}
use Rattle.prz_region.specs.Made.{Write, in_span, run_writes}

-- bytes put at a place within the list
pub put-parts : (xs : List ℕ) (at : ℕ) (bs : List ℕ) → at + length bs ≤ length xs
    → put xs at bs ≡ take at xs ++ bs ++ drop (at + length bs) xs
unfolding put
put-parts xs at [] le = sym (take-append-drop at xs) ∙ ap (λ (n : ℕ). take at xs ++ drop n xs) (sym (add-zero at))
    ∙ ap (λ (l : List ℕ). l ++ drop (at + 0) xs) (sym (append-nil (take at xs)))
put-parts xs at (b ∷ bs) le =
    let past : at + 1 + length bs ≡ at + suc (length bs) = omega arith in
    let front : take (at + 1) (set xs at b) ≡ take at xs ++ b ∷ [] = rw add-one (take-suc-set xs at b (omega arith)) in
    put-parts (set xs at b) (at + 1) bs (omega (arith, length-set xs at b))
    ∙ ap (λ (l : List ℕ). l ++ bs ++ drop (at + 1 + length bs) (set xs at b)) front
    ∙ ap (λ (l : List ℕ). (take at xs ++ b ∷ []) ++ bs ++ l)
    (drop-set-lt (at + 1 + length bs) xs at b (omega arith) ∙ ap (λ (n : ℕ). drop n xs) past)
    ∙ ap (λ (l : List ℕ). l ++ drop (at + suc (length bs)) xs) (append_assoc (take at xs) (b ∷ []) bs)

set-bytes : (xs : List ℕ) (at b : ℕ) → AreBytes xs → b < 256 → AreBytes (set xs at b)
set-bytes [] zero b h k i = h i
set-bytes [] (suc at) b h k i = h i
set-bytes (x ∷ xs) zero b h k zero = k
set-bytes (x ∷ xs) zero b h k (suc i) = h (suc i)
set-bytes (x ∷ xs) (suc at) b h k zero = h 0
set-bytes (x ∷ xs) (suc at) b h k (suc i) = set-bytes xs at b (λ j. h (suc j)) k i

-- bytes put into bytes
pub AreBytes-put : (xs : List ℕ) (at : ℕ) (bs : List ℕ) → AreBytes xs → AreBytes bs → AreBytes (put xs at bs)
unfolding put
AreBytes-put xs at [] h k = h
AreBytes-put xs at (b ∷ bs) h k =
    AreBytes-put (set xs at b) (at + 1) bs (set-bytes xs at b h (k 0)) (λ i. k (suc i))

pub AreBytes-one : (b : ℕ) → b < 256 → AreBytes (b ∷ [])
AreBytes-one b lt zero = lt
AreBytes-one b lt (suc i) = lit< tt

pub AreBytes-word : (order : ByteOrder) (n : ℕ) → AreBytes (word_bytes order n)
AreBytes-word order n zero = omega arith
AreBytes-word order n (suc zero) = omega arith
AreBytes-word order n (suc (suc zero)) = omega arith
AreBytes-word order n (suc (suc (suc zero))) = omega arith
AreBytes-word order n (suc (suc (suc (suc i)))) = omega arith

-- the four bytes of one list and the four of another
pub AreBytes-eight : (xs ys : List ℕ) → AreBytes xs → AreBytes ys → AreBytes (get_or xs 0 0 ∷ get_or xs 1 0
    ∷ get_or xs 2 0 ∷ get_or xs 3 0 ∷ get_or ys 0 0 ∷ get_or ys 1 0 ∷ get_or ys 2 0 ∷ get_or ys 3 0 ∷ [])
AreBytes-eight xs ys h k zero = h 0
AreBytes-eight xs ys h k (suc zero) = h 1
AreBytes-eight xs ys h k (suc (suc zero)) = h 2
AreBytes-eight xs ys h k (suc (suc (suc zero))) = h 3
AreBytes-eight xs ys h k (suc (suc (suc (suc zero)))) = k 0
AreBytes-eight xs ys h k (suc (suc (suc (suc (suc zero))))) = k 1
AreBytes-eight xs ys h k (suc (suc (suc (suc (suc (suc zero)))))) = k 2
AreBytes-eight xs ys h k (suc (suc (suc (suc (suc (suc (suc zero))))))) = k 3
AreBytes-eight xs ys h k (suc (suc (suc (suc (suc (suc (suc (suc i)))))))) = lit< tt

-- a store for each byte puts them all
pub put-stores : (xs : List ℕ) (at : ℕ) (bs : List ℕ) → after_stores xs (byte_stores at bs) ≡ put xs at bs
unfolding put after_stores byte_stores
put-stores xs at [] = refl
put-stores xs at (b ∷ bs) = put-stores (set xs at b) (at + 1) bs

-- the next of the stores of bytes, before the others
pub stores-next : (at : ℕ) (bs : List ℕ) (i : ℕ) → i < length bs
    → record { place = at; bytes = get_or bs i 0 ∷ [] } ∷ byte_stores (at + 1) (drop (i + 1) bs)
    ≡ byte_stores at (drop i bs)
unfolding byte_stores
stores-next at bs i lt = ap (λ (l : List ℕ). byte_stores at l) (sym (drop_more bs i 0 lt))

-- behind the last byte there is none
pub stores-end : (at : ℕ) (bs : List ℕ) (i : ℕ) → length bs ≤ i → byte_stores at (drop i bs) ≡ []
unfolding byte_stores
stores-end at bs i le = ap (λ (l : List ℕ). byte_stores at l) (drop_of_length-le bs le)

-- the next of the bytes put before the others
pub put-next : (xs : List ℕ) (at : ℕ) (bs : List ℕ) (i : ℕ) → i < length bs
    → put (put xs at (get_or bs i 0 ∷ [])) (at + 1) (drop (i + 1) bs) ≡ put xs at (drop i bs)
unfolding put
put-next xs at bs i lt = ap (λ (l : List ℕ). put xs at l) (sym (drop_more bs i 0 lt))

-- behind the last byte nothing is put
pub put-end : (xs : List ℕ) (at : ℕ) (bs : List ℕ) (i : ℕ) → length bs ≤ i → put xs at (drop i bs) ≡ xs
unfolding put
put-end xs at bs i le = ap (λ (l : List ℕ). put xs at l) (drop_of_length-le bs le)

-- bytes put after others
pub put-append : (xs : List ℕ) (at : ℕ) (fs bs : List ℕ)
    → put xs at (fs ++ bs) ≡ put (put xs at fs) (at + length fs) bs
unfolding put
put-append xs at [] bs = ap (λ (n : ℕ). put xs n bs) (sym (add-zero at))
put-append xs at (a ∷ fs) bs =
    put-append (set xs at a) (at + 1) fs bs
    ∙ (let n : at + 1 + length fs ≡ at + length (a ∷ fs) = omega arith in
    ap (λ (n : ℕ). put (put (set xs at a) (at + 1) fs) n bs) n)

-- a store for each byte, those of some bytes before those of others
pub byte_stores-append : (at : ℕ) (fs bs : List ℕ)
    → byte_stores at (fs ++ bs) ≡ byte_stores at fs ++ byte_stores (at + length fs) bs
unfolding byte_stores
byte_stores-append at [] bs = ap (λ (n : ℕ). byte_stores n bs) (sym (add-zero at))
byte_stores-append at (a ∷ fs) bs =
    let n : at + 1 + length fs ≡ at + length (a ∷ fs) = omega arith in
    ap (λ (ss : List Store). record { place = at; bytes = a ∷ [] } ∷ ss)
    (byte_stores-append (at + 1) fs bs ∙ ap (λ (n : ℕ). byte_stores (at + 1) fs ++ byte_stores n bs) n)

-- the writes of a run are those stores in the span
pub run-in_span : (i at : ℕ) (bs : List ℕ) → run_writes i at bs ≡ in_span i (byte_stores at bs)
unfolding run_writes byte_stores
run-in_span i at [] = refl
run-in_span i at (b ∷ bs) =
    ap (λ (ws : List (Write ℕ)). record { span = i; place = at; values = b ∷ [] } ∷ ws) (run-in_span i (at + 1) bs)
