-- Words that differ in at most two places of a block: what their sums then satisfy. For `told`.
use Rattle.std.proofs.Common.{◌≡◌, ◌≢◌, ℕ, zero, suc, ◌+◌, ◌-◌, ◌<◌, ◌≤◌, ◌⊎◌, inl, inr, List, [], ◌∷◌, ◌++◌, length}
use Rattle.std.proofs.Common.{drop, refl, sym, ap, ap₂, ◌∙◌, subst, arith, Option, length-drop}
use Rattle.std.proofs.lemmas.Bool.{cases_eq, cases_lt}
use Rattle.std.proofs.lemmas.List.{drop-drop}
use Rattle.code_spec.specs.Field.{gf_add, gf_mul, gf_pow}
use Rattle.code_spec.specs.Code.{distance}
use Rattle.code_laws.proofs.Ring.{add_zero, zero_mul}
use Rattle.salvage.specs.declared.sieve.Block.{Block}
use Rattle.salvage.specs.Sieves.{IsBlock, IsKnownWord, times_power, pair_sum}
use Rattle.salvage.proofs.BlockFactors.{sum_of, between, Vanish, apart, alone, same_term, same_head, other_head}
use Rattle.salvage.proofs.BlockFactors.{between_more, between-through, between_none, vanish_own, vanish_times}

-- powers that fall from below `end` and are not below `low`
unfoldable pub Fall : ℕ → ℕ → List ℕ → Type 0
Fall low end [] = Unit {0}
Fall low end (p ∷ ps) = (low ≤ p) × (p < end) × Fall low p ps

fall_higher : (low end more : ℕ) (ps : List ℕ) → end ≤ more → Fall low end ps → Fall low more ps
unfolding Fall
fall_higher low end more [] l f = tt
fall_higher low end more (p ∷ ps) l f = (f.0, omega (arith, f.1, l), f.2)

vanish_nowhere : (H : ℕ → ℕ) (ps : List ℕ) → length ps ≡ 0 → Vanish H ps
unfolding Vanish
vanish_nowhere H [] l = tt
vanish_nowhere H (p ∷ ps) l = absurd (omega (arith, l))

-- words differ in no more places than there are
distance_most : (m : ℕ) (w c : List ℕ) → length w ≡ length c → distance w c ≤ m + distance (drop m w) (drop m c)
distance_most zero w c l = omega arith
distance_most (suc m) [] [] l = omega arith
distance_most (suc m) [] (y ∷ c) l = absurd (omega arith)
distance_most (suc m) (x ∷ w) [] l = absurd (omega arith)
distance_most (suc m) (x ∷ w) (y ∷ c) l = by (cases_eq x y) (distance_most m w c (omega arith))
  where
    by : (x ≡ y) ⊎ (x ≢ y) → distance w c ≤ m + distance (drop m w) (drop m c)
        → distance (x ∷ w) (y ∷ c) ≤ suc m + distance (drop m w) (drop m c)
    by (inl s) h = omega (arith, same_head x y w c s, h)
    by (inr n) h = omega (arith, other_head x y w c n, h)

-- the powers of e of the first m places, among them those where words differ: a sum that counts none of them is zero
pub record Chosen (m e : ℕ) (w c : List ℕ) : Type 0 where
  pub ps : List ℕ
  pub len : length ps ≡ e
  pub falls : Fall (length w - m) (length w) ps
  pub none : (H : ℕ → ℕ) → Vanish H ps → gf_add (sum_of H w c) (sum_of H (drop m w) (drop m c)) ≡ 0

chosen_head : (m e x y : ℕ) (w c : List ℕ) → Chosen m e w c → Chosen (suc m) (suc e) (x ∷ w) (y ∷ c)
unfolding Vanish Fall
chosen_head m e x y w c h = record {
  ps = length w ∷ h.ps;
  len = ap suc h.len;
  falls = (
    omega arith,
    omega arith,
    subst (λ (n : ℕ). Fall n (length w) h.ps) (let e : length w - m ≡ suc (length w) - suc m = omega arith in e) h.falls,
  );
  none = λ H v.
      alone H x y w c (drop m w) (drop m c) (h.none H v.1)
      ∙ ap (λ (t : ℕ). gf_mul t (gf_add x y)) v.0 ∙ zero_mul (gf_add x y);
}

chosen_past : (m e x y : ℕ) (w c : List ℕ) → x ≡ y → Chosen m e w c → Chosen (suc m) e (x ∷ w) (y ∷ c)
chosen_past m e x y w c s h = record {
  ps = h.ps;
  len = h.len;
  falls =
      subst (λ (n : ℕ). Fall n (suc (length w)) h.ps)
      (let e : length w - m ≡ suc (length w) - suc m = omega arith in e)
      (fall_higher (length w - m) (length w) (suc (length w)) h.ps (omega arith) h.falls);
  none = λ H v. same_term H x y w c (drop m w) (drop m c) s ∙ h.none H v;
}

chosen : (m e : ℕ) (w c : List ℕ) → length w ≡ length c → e ≤ m → m ≤ length w
    → distance w c ≤ e + distance (drop m w) (drop m c) → Chosen m e w c
unfolding Fall
chosen m zero w c l few long d =
    let a = apart m 0 w c l d in record {
      ps = [];
      len = refl;
      falls = tt;
      none = λ H v. a.2 H (vanish_nowhere H a.0 a.1);
    }
chosen zero (suc e) w c l few long d = absurd (omega (arith, few))
chosen (suc m) (suc e) [] c l few long d = absurd (omega (arith, long))
chosen (suc m) (suc e) (x ∷ w) [] l few long d = absurd (omega (arith, l))
chosen (suc m) (suc e) (x ∷ w) (y ∷ c) l few long d =
    by (cases_eq x y) (cases_lt m (suc e)) (λ k. chosen m e w c (omega arith) (omega (arith, few)) (omega (arith, long)) k)
    (λ k n. chosen m (suc e) w c (omega arith) n (omega (arith, long)) k)
  where
    by : (x ≡ y) ⊎ (x ≢ y) → (m < suc e) ⊎ (suc e ≤ m)
        → (distance w c ≤ e + distance (drop m w) (drop m c) → Chosen m e w c)
        → (distance w c ≤ suc e + distance (drop m w) (drop m c) → suc e ≤ m → Chosen m (suc e) w c)
        → Chosen (suc m) (suc e) (x ∷ w) (y ∷ c)
    by (inr n) k take past = chosen_head m e x y w c (take (omega (arith, other_head x y w c n, d)))
    by (inl s) (inl k) take past =
        chosen_head m e x y w c (take (omega (arith, distance_most m w c (omega (arith, l)), k, few)))
    by (inl s) (inr k) take past =
        chosen_past m (suc e) x y w c s (past (omega (arith, same_head x y w c s, d)) k)

-- two places of a block, for which the sums of a word are those of errors there
pub record Pair (r : ℕ) (b : Block) (s : ℕ → ℕ) : Type 0 where
  pub low : ℕ
  pub high : ℕ
  pub within : 12 + r - b.to ≤ low
  pub below : low < high
  pub end : high < 12 + r - b.from
  pub zero : pair_sum low high s ≡ 0

pair_same : (x y : ℕ) (s t : ℕ → ℕ) → s 0 ≡ t 0 → s 1 ≡ t 1 → s 2 ≡ t 2 → pair_sum x y s ≡ pair_sum x y t
unfolding pair_sum
pair_same x y s t e f g = rw (e, f, g) refl

module _ (ks : List (Option ℕ)) (r : ℕ) (b : Block) (is : IsBlock ks r b) (c base : List ℕ)
    (hc : IsKnownWord ks r c) (hb : IsKnownWord ks r base) where
  pub pair : (word : List ℕ) (s : ℕ → ℕ) → length word ≡ 12 + r → b.least ≡ 2
      → ((i : ℕ) → i < 7 → s i ≡ between (times_power is.others i) word base b.from b.to)
      → distance (drop b.from word) (drop b.from c) < 3 + distance (drop b.to word) (drop b.to c) → Pair r b s
  unfolding pair_sum Fall
  pair word s l two at near = by one.ps one.len one.falls one.none
    where
      e : length word ≡ length c
      e = l ∙ sym hc.len

      on : (v : List ℕ) → drop (b.to - b.from) (drop b.from v) ≡ drop b.to v
      on v = drop-drop (b.to - b.from) b.from v ∙ ap (λ (n : ℕ). drop n v) (omega (arith, is.some))

      t : List ℕ → ℕ → ℕ
      t ps i = between (times_power (ps ++ is.others) i) word c b.from b.to

      same : (i : ℕ) → i < 3 → s i ≡ t [] i
      same i h =
          at i (omega (arith, h))
          ∙ between-through (times_power is.others i) word c base b.from b.to e (hc.len ∙ sym hb.len)
          ∙ ap (gf_add (between (times_power is.others i) word c b.from b.to))
          (between_none ks r b is c base hc hb i (omega (arith, h, two, is.few)))
          ∙ add_zero (between (times_power is.others i) word c b.from b.to)

      one : Chosen (b.to - b.from) 2 (drop b.from word) (drop b.from c)
      one =
          chosen (b.to - b.from) 2 (drop b.from word) (drop b.from c)
          (length-drop b.from word ∙ ap (λ (k : ℕ). k - b.from) e ∙ sym (length-drop b.from c))
          (omega (arith, is.some)) (omega (arith, length-drop b.from word, l, is.within, is.some))
          (omega (arith, near, ap₂ distance (on word) (on c)))

      by : (ps : List ℕ) → length ps ≡ 2
          → Fall (length (drop b.from word) - (b.to - b.from)) (length (drop b.from word)) ps
          → ((H : ℕ → ℕ) → Vanish H ps → gf_add (sum_of H (drop b.from word) (drop b.from c))
          (sum_of H (drop (b.to - b.from) (drop b.from word)) (drop (b.to - b.from) (drop b.from c))) ≡ 0)
          → Pair r b s
      by [] n f z = absurd (omega (arith, n))
      by (y ∷ []) n f z = absurd (omega (arith, n))
      by (y ∷ x ∷ v ∷ ps) n f z = absurd (omega (arith, n))
      by (y ∷ x ∷ []) n f z = record {
        low = x;
        high = y;
        within = omega (arith, f.2.0, length-drop b.from word, l, is.within, is.some);
        below = f.2.1;
        end = omega (arith, f.1, length-drop b.from word, l);
        zero =
            pair_same x y s (t []) (same 0 (omega arith)) (same 1 (omega arith)) (same 2 (omega arith))
            ∙ sym (step y (x ∷ []) 0 ∙ ap₂ (λ (u v : ℕ). gf_add u (gf_mul (gf_pow 2 y) v)) (step x [] 1) (step x [] 0))
            ∙ ap₂ (λ (u v : List ℕ). gf_add (sum_of (times_power (y ∷ x ∷ is.others) 0) (drop b.from word)
            (drop b.from c)) (sum_of (times_power (y ∷ x ∷ is.others) 0) u v)) (sym (on word)) (sym (on c))
            ∙ z (times_power (y ∷ x ∷ is.others) 0)
            (vanish_times (y ∷ x ∷ is.others) 0 (y ∷ x ∷ []) (vanish_own (y ∷ x ∷ []) is.others));
      }
        where
          step : (m : ℕ) (ps : List ℕ) (i : ℕ) → t (m ∷ ps) i ≡ gf_add (t ps (suc i)) (gf_mul (gf_pow 2 m) (t ps i))
          step m ps i = between_more m (ps ++ is.others) i word c b.from b.to

  -- three errors at least, where the sums are not those of errors at any two places
  pub three : (word : List ℕ) (s : ℕ → ℕ) → length word ≡ 12 + r → b.least ≡ 2
      → ((i : ℕ) → i < 7 → s i ≡ between (times_power is.others i) word base b.from b.to)
      → ((x y : ℕ) → 12 + r - b.to ≤ x → x < y → y < 12 + r - b.from → pair_sum x y s ≢ 0)
      → 3 + distance (drop b.to word) (drop b.to c) ≤ distance (drop b.from word) (drop b.from c)
  three word s l two at none =
      by (cases_lt (distance (drop b.from word) (drop b.from c)) (3 + distance (drop b.to word) (drop b.to c)))
    where
      by : (distance (drop b.from word) (drop b.from c) < 3 + distance (drop b.to word) (drop b.to c))
          ⊎ (3 + distance (drop b.to word) (drop b.to c) ≤ distance (drop b.from word) (drop b.from c))
          → 3 + distance (drop b.to word) (drop b.to c) ≤ distance (drop b.from word) (drop b.from c)
      by (inr h) = h
      by (inl h) = absurd (let p = pair word s l two at h in none p.low p.high p.within p.below p.end p.zero)
