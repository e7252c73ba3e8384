-- Open calls by their tickets
use Rattle.std.proofs.Common.{◌≡◌, ◌≢◌, ℕ, zero, suc, ◌+◌, ◌<◌, ◌≤◌, Bool, true, false, cond, List, [], ◌∷◌, ◌++◌, take}
use Rattle.std.proofs.Common.{drop, refl, ap, ap₂, arith, Some}
use Rattle.std.proofs.lemmas.Bool.{ne_eqb}
use Rattle.std.specs.Prelude.{slice_get, flat_map}
use Rattle.zone_spec.specs.declared.Zone.{Zone}
use Rattle.shared_spec.specs.declared.OpenCall.{OpenCall}
use Rattle.shared_spec.specs.Calls.{SharedCall, is_open_call}
use Rattle.shared_spec.specs.Machine.{SharedZone, shown, open_calls_from}
use Rattle.shared_laws.specs.Seats.{after_step}

-- all tickets are at least this
pub record AreFrom (k : ℕ) (xs : List OpenCall) : Type 0 where
  pub each : (j : ℕ) (o : OpenCall) → slice_get xs j ≡ Some o → k ≤ o.ticket

-- a later call has a later ticket
pub record AreRising (xs : List OpenCall) : Type 0 where
  pub each : (i j : ℕ) (o p : OpenCall) → slice_get xs i ≡ Some o → slice_get xs j ≡ Some p → i < j
      → o.ticket < p.ticket

from_more : (b : Bool) (x : OpenCall) (xs : List OpenCall) (k : ℕ) → x.ticket ≡ k → AreFrom (k + 1) xs
    → AreFrom k (cond b (x ∷ []) [] ++ xs)
from_more b x xs k e h = record { each = by b }
  where
    by : (b : Bool) (j : ℕ) (o : OpenCall) → slice_get (cond b (x ∷ []) [] ++ xs) j ≡ Some o → k ≤ o.ticket
    by true zero o g =
        let s : x ≡ o = cc in
        let t : x.ticket ≡ o.ticket = ap (λ (y : OpenCall). y.ticket) s in omega arith
    by true (suc j) o g = let l : k + 1 ≤ o.ticket = h.each j o g in omega arith
    by false j o g = let l : k + 1 ≤ o.ticket = h.each j o g in omega arith

rising_more : (b : Bool) (x : OpenCall) (xs : List OpenCall) (k : ℕ) → x.ticket ≡ k → AreFrom (k + 1) xs
    → AreRising xs → AreRising (cond b (x ∷ []) [] ++ xs)
rising_more b x xs k e h r = record { each = by b }
  where
    by : (b : Bool) (i j : ℕ) (o p : OpenCall) → slice_get (cond b (x ∷ []) [] ++ xs) i ≡ Some o
        → slice_get (cond b (x ∷ []) [] ++ xs) j ≡ Some p → i < j → o.ticket < p.ticket
    by true i zero o p f g l = absurd (omega arith)
    by true zero (suc j) o p f g l =
        let s : x ≡ o = cc in
        let t : x.ticket ≡ o.ticket = ap (λ (y : OpenCall). y.ticket) s in
        let m : k + 1 ≤ p.ticket = h.each j p g in omega arith
    by true (suc i) (suc j) o p f g l = r.each i j o p f g (omega arith)
    by false i j o p f g l = r.each i j o p f g l

module _ (z : Zone) (shared : SharedZone) where
  pub are_from : (k : ℕ) (cs : List SharedCall) → AreFrom k (open_calls_from z shared k cs)
  unfolding open_calls_from
  are_from k [] = record { each = λ j o e. cc }
  are_from k (c ∷ cs) = from_more (is_open_call c) (shown z shared k c) (open_calls_from z shared (k + 1) cs) k refl
      (are_from (k + 1) cs)

  pub are_rising : (k : ℕ) (cs : List SharedCall) → AreRising (open_calls_from z shared k cs)
  unfolding open_calls_from
  are_rising k [] = record { each = λ i j o p e. cc }
  are_rising k (c ∷ cs) = rising_more (is_open_call c) (shown z shared k c) (open_calls_from z shared (k + 1) cs) k refl
      (are_from (k + 1) cs) (are_rising (k + 1) cs)

-- ---- a step of the call with a ticket

after_other : (t : ℕ) (x : OpenCall) → x.ticket ≢ t → after_step t x ≡ x ∷ []
after_other t x n = rw (ne_eqb x.ticket t n) refl

-- the others stay
others_stay : (t : ℕ) (xs : List OpenCall) → ((j : ℕ) (o : OpenCall) → slice_get xs j ≡ Some o → o.ticket ≢ t)
    → flat_map (after_step t) xs ≡ xs
others_stay t [] h = refl
others_stay t (x ∷ xs) h = ap₂ (λ ys zs. ys ++ zs) (after_other t x (h 0 x refl))
    (others_stay t xs (λ j o e. h (suc j) o e))

pub after_own : (t : ℕ) (xs : List OpenCall) (i : ℕ) (o : OpenCall) → slice_get xs i ≡ Some o → o.ticket ≡ t
    → AreRising xs → flat_map (after_step t) xs ≡ (take i xs ++ after_step t o) ++ drop (suc i) xs
after_own t [] i o e h r = cc
after_own t (x ∷ xs) zero o e h r =
    let s : x ≡ o = cc in
    ap₂ (λ ys zs. ys ++ zs) (ap (after_step t) s) (others_stay t xs (λ j p g.
    let l : o.ticket < p.ticket = r.each 0 (suc j) o p e g (omega arith) in
    let n : p.ticket ≢ t = omega arith in n))
after_own t (x ∷ xs) (suc i) o e h r =
    let l : x.ticket < o.ticket = r.each 0 (suc i) x o refl e (omega arith) in
    let n : x.ticket ≢ t = omega arith in
    ap₂ (λ ys zs. ys ++ zs) (after_other t x n) (after_own t xs i o e h (record {
      each = λ j k p q f g m. r.each (suc j) (suc k) p q f g (omega arith);
    }))
