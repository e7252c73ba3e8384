-- A part's corrections from a byte on
use Rattle.std.proofs.Common.{◌≡◌, ◌≢◌, ℕ, zero, suc, ◌+◌, ◌-◌, ◌<◌, ◌≤◌, List, [], ◌∷◌, ◌++◌, length, take, drop}
use Rattle.std.proofs.Common.{get_or, slice_range, Bool, true, false, ◌==◌, refl, sym, ap, ap₂, ◌∙◌, arith, eq-eqb}
use Rattle.std.proofs.Common.{append_assoc, length-take, length-drop, get_or-drop}
use Rattle.std.proofs.lemmas.Bool.Decides.{nat_tests}
use Rattle.std.proofs.lemmas.List.{take_more}
use Rattle.zone_spec.specs.Stores.{Store, byte_stores}
use Rattle.zone_spec.specs.Boot.{fix_stores}

-- a byte that does not differ has no store
pub fix-same : (p i : ℕ) (s r : List ℕ) → length r ≡ length s → i < length s → get_or s i 0 ≡ get_or r i 0
    → fix_stores p (drop i s) (drop i r) ≡ fix_stores (p + 1) (drop (i + 1) s) (drop (i + 1) r)
unfolding fix_stores
fix-same p i [] r l h e = absurd (omega arith)
fix-same p i (b ∷ bs) [] l h e = absurd (omega arith)
fix-same p zero (b ∷ bs) (c ∷ cs) l h e = rw (eq-eqb b c e) refl
fix-same p (suc i) (b ∷ bs) (c ∷ cs) l h e =
    fix-same p i bs cs (omega arith) (omega arith) e
    ∙ ap (λ (m : ℕ). fix_stores (p + 1) (drop m (b ∷ bs)) (drop m (c ∷ cs)))
    (let f : suc (i + 1) ≡ suc i + 1 = omega arith in f)

-- one that differs has one
pub fix-other : (p i : ℕ) (s r : List ℕ) → length r ≡ length s → i < length s → get_or s i 0 ≢ get_or r i 0
    → fix_stores p (drop i s) (drop i r)
    ≡ byte_stores p (get_or r i 0 ∷ []) ++ fix_stores (p + 1) (drop (i + 1) s) (drop (i + 1) r)
unfolding fix_stores byte_stores
fix-other p i [] r l h e = absurd (omega arith)
fix-other p i (b ∷ bs) [] l h e = absurd (omega arith)
fix-other p zero (b ∷ bs) (c ∷ cs) l h e = let f : (b == c) ≡ false = grind (arith, nat_tests) in rw f refl
fix-other p (suc i) (b ∷ bs) (c ∷ cs) l h e =
    fix-other p i bs cs (omega arith) (omega arith) e
    ∙ ap (λ (m : ℕ). byte_stores p (get_or cs i 0 ∷ []) ++ fix_stores (p + 1) (drop m (b ∷ bs)) (drop m (c ∷ cs)))
    (let f : suc (i + 1) ≡ suc i + 1 = omega arith in f)

pub fix-end : (p : ℕ) (s r : List ℕ) (n : ℕ) → length s ≤ n → fix_stores p (drop n s) (drop n r) ≡ []
unfolding fix_stores
fix-end p [] r zero h = refl
fix-end p [] r (suc n) h = refl
fix-end p (b ∷ bs) r zero h = absurd (omega arith)
fix-end p (b ∷ bs) [] (suc n) h = none (drop n bs)
  where
    none : (ys : List ℕ) → fix_stores p ys [] ≡ []
    none [] = refl
    none (y ∷ ys) = refl
fix-end p (b ∷ bs) (c ∷ cs) (suc n) h = fix-end p bs cs n (omega arith)

-- ---- a run of bytes that differ
pub byte-append : (p : ℕ) (xs ys : List ℕ)
    → byte_stores p (xs ++ ys) ≡ byte_stores p xs ++ byte_stores (p + length xs) ys
unfolding byte_stores
byte-append p [] ys = ap (λ (n : ℕ). byte_stores n ys) (let e : p ≡ p + 0 = omega arith in e)
byte-append p (x ∷ xs) ys =
    ap (λ (l : List Store). record { place = p; bytes = x ∷ [] } ∷ l)
    (byte-append (p + 1) xs ys ∙ ap (λ (n : ℕ). byte_stores (p + 1) xs ++ byte_stores n ys)
    (let e : p + 1 + length xs ≡ p + suc (length xs) = omega arith in e))

pub byte-none : (p : ℕ) (bs : List ℕ) → bs ≡ [] → byte_stores p bs ≡ []
unfolding byte_stores
byte-none p bs e = ap (byte_stores p) e

pub byte-some : (p : ℕ) (bs : List ℕ) → byte_stores p bs ≡ [] → bs ≡ []
unfolding byte_stores
byte-some p [] e = refl
byte-some p (b ∷ bs) e =
    absurd (let n : ◌≡◌ {A = ℕ} (suc (length (byte_stores (p + 1) bs))) 0 = ap length e in omega (arith, n))

module _ (s r : List ℕ) (same : length r ≡ length s) (from : ℕ) where
  pub agree-none : (at : ℕ) → fix_stores (at + from) (drop from s) (drop from r)
      ≡ byte_stores (at + from) (slice_range r from from) ++ fix_stores (at + from) (drop from s) (drop from r)
  unfolding byte_stores
  agree-none at = ap (λ (n : ℕ). byte_stores (at + from) (take n (drop from r)) ++ fix_stores (at + from) (drop from s)
      (drop from r)) (let e : 0 ≡ from - from = omega arith in e)

  pub agree-next : (i : ℕ) → from ≤ i → i < length s → get_or s i 0 ≢ get_or r i 0
      → ((at : ℕ) → fix_stores (at + from) (drop from s) (drop from r)
      ≡ byte_stores (at + from) (slice_range r from i) ++ fix_stores (at + i) (drop i s) (drop i r))
      → (at : ℕ) → fix_stores (at + from) (drop from s) (drop from r)
      ≡ byte_stores (at + from) (slice_range r from (i + 1))
      ++ fix_stores (at + (i + 1)) (drop (i + 1) s) (drop (i + 1) r)
  agree-next i low less ne before at =
      let front : List ℕ = slice_range r from i in
      let b : ℕ = get_or r i 0 in
      let rest : List Store = fix_stores (at + (i + 1)) (drop (i + 1) s) (drop (i + 1) r) in
      let long : length front ≡ i - from =
      omega (arith, length-take (i - from) (drop from r), length-drop from r, same, low, less) in
      let more : slice_range r from (i + 1) ≡ front ++ b ∷ [] =
      ap (λ (n : ℕ). take n (drop from r)) (let e : i + 1 - from ≡ i - from + 1 = omega (arith, low) in e)
      ∙ take_more (drop from r) (i - from) 0 (omega (arith, length-drop from r, same, low, less))
      ∙ ap (λ (c : ℕ). front ++ c ∷ []) (get_or-drop from r (i - from) 0
      ∙ ap (λ (n : ℕ). get_or r n 0) (let e : from + (i - from) ≡ i = omega (arith, low) in e)) in
      before at
      ∙ ap (λ (l : List Store). byte_stores (at + from) front ++ l)
      (fix-other (at + i) i s r same less ne
      ∙ ap₂ (λ (p q : ℕ). byte_stores p (b ∷ []) ++ fix_stores q (drop (i + 1) s) (drop (i + 1) r))
      (let e : at + i ≡ at + from + length front = omega (arith, long, low) in e)
      (let e : at + i + 1 ≡ at + (i + 1) = omega arith in e))
      ∙ sym (append_assoc (byte_stores (at + from) front) (byte_stores (at + from + length front) (b ∷ [])) rest)
      ∙ ap (λ (l : List Store). l ++ rest) (sym (byte-append (at + from) front (b ∷ [])))
      ∙ ap (λ (l : List ℕ). byte_stores (at + from) l ++ rest) (sym more)

-- ---- lists that a test says to be empty
pub empty-is : (bs : List ℕ) (b : Bool) → b ≡ (length bs == 0) → b ≡ true → bs ≡ []
empty-is [] b e h = refl
empty-is (c ∷ cs) b e h = absurd (let n : ◌≡◌ {A = ℕ} 0 1 = grind (arith, nat_tests) in omega (arith, n))

pub empty-test : (bs : List ℕ) (b : Bool) → b ≡ (length bs == 0) → bs ≡ [] → b ≡ true
empty-test bs b e h = e ∙ ap (λ (l : List ℕ). length l == 0) h

pub full-is : (bs : List ℕ) → false ≡ (length bs == 0) → bs ≡ [] → ⊥
full-is bs e h = (let n : false ≡ true = e ∙ ap (λ (l : List ℕ). length l == 0) h in cc)
