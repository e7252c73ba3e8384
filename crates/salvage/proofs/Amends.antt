-- The known bytes put in one by one
use Rattle.std.proofs.Common.{Bool, true, false, ◌≡◌, ℕ, zero, suc, ◌+◌, ◌<◌, ◌≤◌, ◌==◌, if◌then◌else◌, List, [], ◌∷◌}
use Rattle.std.proofs.Common.{length, drop, get_or, refl, sym, ap, ◌∙◌, subst, arith, Option, Some, None, unwrap_or}
use Rattle.std.proofs.Common.{ext_get_or, set, ◌≢◌, get_or-set_other, get_or-set_same, below_more}
use Rattle.code_spec.specs.Code.{distance}
use Rattle.salvage_laws.specs.Known.{put_in}
use Rattle.salvage_laws.proofs.KnownBytes.{length-put_in}

-- the first i of w are put in, and count of them differed
pub record Amending (ks : List (Option ℕ)) (w out : List ℕ) (i count : ℕ) : Type 0 where
  pub done : (k : ℕ) → k < i → get_or out k 0 ≡ get_or (put_in ks w) k 0
  pub left : (k : ℕ) → i ≤ k → get_or out k 0 ≡ get_or w k 0
  pub total : count + distance (drop i w) (drop i (put_in ks w)) ≡ distance w (put_in ks w)
  pub few : count ≤ i

pub item : (ks : List (Option ℕ)) (w : List ℕ) (i : ℕ) → i < length ks → i < length w
    → get_or (put_in ks w) i 0 ≡ unwrap_or (get_or ks i None) (get_or w i 0)
unfolding put_in
item [] w i l m = absurd (omega arith)
item (k ∷ ks) [] i l m = absurd (omega arith)
item (None ∷ ks) (b ∷ w) zero l m = refl
item (Some k ∷ ks) (b ∷ w) zero l m = refl
item (None ∷ ks) (b ∷ w) (suc i) l m = item ks w i (omega arith) (omega arith)
item (Some k ∷ ks) (b ∷ w) (suc i) l m = item ks w i (omega arith) (omega arith)

pub step : (i : ℕ) (v w : List ℕ) → i < length v → i < length w → distance (drop i v) (drop i w)
    ≡ (if get_or v i 0 == get_or w i 0 then 0 else 1) + distance (drop (suc i) v) (drop (suc i) w)
unfolding distance
step i [] w l m = absurd (omega arith)
step i (v ∷ vs) [] l m = absurd (omega arith)
step zero (v ∷ vs) (w ∷ ws) l m = refl
step (suc i) (v ∷ vs) (w ∷ ws) l m = step i vs ws (omega arith) (omega arith)

pub next : (ks : List (Option ℕ)) (w out : List ℕ) (i count b n : ℕ) → length ks ≡ length w → length out ≡ length w
    → i < length w → Amending ks w out i count → b ≡ unwrap_or (get_or ks i None) (get_or out i 0)
    → n ≡ (if get_or out i 0 == b then 0 else 1) → Amending ks w (set out i b) (i + 1) (count + n)
next ks w out i count b n lk lo li h eb en =
    let stood : get_or out i 0 ≡ get_or w i 0 = h.left i (omega arith) in
    let put : b ≡ get_or (put_in ks w) i 0 =
    eb ∙ ap (λ x. unwrap_or (get_or ks i None) x) stood ∙ sym (item ks w i (omega (arith, lk)) li) in
    let apart : n ≡ (if get_or w i 0 == get_or (put_in ks w) i 0 then 0 else 1) =
    en ∙ ap (λ x. if x == b then 0 else 1) stood ∙ ap (λ x. if get_or w i 0 == x then 0 else 1) put in
    let s = step i w (put_in ks w) li (omega (arith, length-put_in ks w)) in
    let at : suc i ≡ i + 1 = omega arith in
    record {
      done = below_more _ _ (λ k l. let ne : k ≢ i = omega arith in rw get_or-set_other (h.done k l))
          (let lt : i < length out = omega (arith, lo) in rw get_or-set_same put);
      left = λ k l. (let ne : k ≢ i = omega arith in rw get_or-set_other (h.left k (omega arith)));
      total = subst (λ j. (count + n) + distance (drop j w) (drop j (put_in ks w)) ≡ distance w (put_in ks w)) at
          (omega (arith, s, apart, h.total));
      few = omega (arith, h.few, en, zero_or_one (get_or out i 0) b);
    }
  where
    zero_or_one : (x y : ℕ) → (if x == y then 0 else 1) ≤ 1
    zero_or_one x y = by (x == y)
      where
        by : (t : Bool) → (if t then 0 else 1) ≤ 1
        by true = omega arith
        by false = omega arith

from_nothing : (n : ℕ) (w : List ℕ) → distance (drop n []) w ≡ 0
unfolding distance
from_nothing zero w = refl
from_nothing (suc n) w = refl

none_left : (n : ℕ) (v w : List ℕ) → length v ≤ n → distance (drop n v) w ≡ 0
unfolding distance
none_left n [] w l = from_nothing n w
none_left zero (v ∷ vs) w l = absurd (omega arith)
none_left (suc n) (v ∷ vs) w l = none_left n vs w (omega arith)

-- at the end all are
pub whole : (ks : List (Option ℕ)) (w out : List ℕ) (i count : ℕ) → length out ≡ length w → length w ≤ i
    → Amending ks w out i count → out ≡ put_in ks w
whole ks w out i count lo le h =
    ext_get_or 0 out (put_in ks w) (lo ∙ sym (length-put_in ks w)) (λ k l. h.done k (omega (arith, lo)))

pub counted : (ks : List (Option ℕ)) (w out : List ℕ) (i count : ℕ) → length out ≡ length w → length w ≤ i
    → Amending ks w out i count → count ≡ distance w out
counted ks w out i count lo le h =
    omega (arith, h.total, none_left i w (drop i (put_in ks w)) le) ∙ ap (distance w) (sym (whole ks w out i count
    lo le h))
