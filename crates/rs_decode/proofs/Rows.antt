-- Euclid's algorithm keeps its two rows, and at its end one of them is the solution. For `euclid` and `reduce`.
use Rattle.std.proofs.Common.{◌≡◌, ◌≢◌, ℕ, suc, ◌+◌, ◌-◌, ◌≤◌, ◌<◌, sym, ap, ap₂, ◌∙◌, subst, arith, List, length}
use Rattle.std.proofs.Common.{get_or, drop, ◌⊎◌, inl, inr, length-drop, get_or-drop, add-zero}
use Rattle.std.proofs.lemmas.Bool.{cases_lt}
use Rattle.code_spec.specs.Field.{gf_add, gf_mul}
use Rattle.code_laws.proofs.Ring.{add_self, zero_add, mul_one, mul_zero, mul_comm, mul_assoc}
use Rattle.decoder_laws.specs.Series.{times, shift, none, one, Below, Bytes}
use Rattle.decoder_laws.specs.Polynomials.{poly, LeadingZeros}
use Rattle.decoder_laws.specs.Euclid.{IsStep, IsSolution}
use Rattle.decoder_laws.proofs.Series.{times-bytes, one-bytes, shift-bytes, none-bytes, plus-bytes, below_weaken}
use Rattle.decoder_laws.proofs.Polynomials.{poly-below, fewer_zeros, poly-drop_zeros}
use Rattle.rs_decode.specs.Rows.{IsRows}
use Rattle.decoder_laws.proofs.Euclid.{euclid_start, euclid_step}

-- the leading symbol goes
pub cleared : (k to f v : ℕ) (n m b : List ℕ) → LeadingZeros k m → LeadingZeros to b → k ≤ to → k < length n
    → get_or m k 0 < 256 → gf_mul (get_or b to 0) v ≡ 1 → f ≡ gf_mul (get_or m k 0) v
    → ((j : ℕ) → j < length n → get_or n j 0 ≡ gf_add (get_or m j 0) (gf_mul f (get_or b (j + (to - k)) 0)))
    → LeadingZeros (k + 1) n
cleared k to f v n m b zm zb l ln bm e ef h = record { at = λ j lj. go j (cases_lt j k) lj }
  where
    here : get_or n k 0 ≡ 0
    here =
        let i : k + (to - k) ≡ to = omega arith in
        h k ln ∙ ap₂ (λ (x y : ℕ). gf_add (get_or m k 0) (gf_mul x y)) ef (ap (λ (i : ℕ). get_or b i 0) i)
        ∙ ap (gf_add (get_or m k 0)) (mul_assoc (get_or m k 0) v (get_or b to 0)
        ∙ ap (gf_mul (get_or m k 0)) (mul_comm v (get_or b to 0) ∙ e) ∙ mul_one (get_or m k 0) bm)
        ∙ add_self (get_or m k 0)

    go : (j : ℕ) → (j < k) ⊎ (k ≤ j) → j < k + 1 → get_or n j 0 ≡ 0
    go j (inl b') lj = h j (omega arith) ∙ ap₂ (λ (x y : ℕ). gf_add x (gf_mul f y)) (zm.at j b')
        (zb.at (j + (to - k)) (omega arith)) ∙ zero_add (gf_mul f 0) ∙ mul_zero f
    go j (inr b') lj = let i : j ≡ k = omega arith in ap (λ (i : ℕ). get_or n i 0) i ∙ here

pub room_kept : (d z f : ℕ) (n m b : List ℕ) → LeadingZeros z m → LeadingZeros (z + d) b → z ≤ length n
    → ((j : ℕ) → j < length n → get_or n j 0 ≡ gf_add (get_or m j 0) (gf_mul f (get_or b (j + d) 0)))
    → LeadingZeros z n
room_kept d z f n m b zm zb l h = record {
  at = λ j lj. h j (omega arith) ∙ ap₂ (λ (x y : ℕ). gf_add x (gf_mul f y)) (zm.at j lj) (zb.at (j + d) (omega arith))
      ∙ zero_add (gf_mul f 0) ∙ mul_zero f;
}

-- ---- the rows of the algorithm
pub rows_start : (t : ℕ) (S : ℕ → ℕ) (v v' r r' : List ℕ) (b : ℕ) → Bytes S → poly v ≡ one
    → poly v' ≡ none → poly r ≡ S → poly r' ≡ shift (t + t) one → 16 ≤ b → b ≤ length r
    → LeadingZeros b r → (b < length r → get_or r b 0 ≢ 0) → LeadingZeros (t + 15) v → LeadingZeros 15 r' → LeadingZeros
    (t + 16) v' → IsRows t S v v' r r' 15 b
rows_start t S v v' r r' b bs pv pv' pr pr' l w z lead zv zr zv' = record {
  euclid = rw (pv, pv', pr, pr') (euclid_start (t + t) S bs);
  order = omega arith;
  padded = omega arith;
  above = omega arith;
  within = w;
  leading = lead;
  zeros = z;
  old_zeros = zr;
  room = fewer_zeros (t + 30 - 15) (t + 15) v (omega arith) zv;
  old_room = fewer_zeros (t + 30 - 15) (t + 16) v' (omega arith) zv';
  bytes = subst Bytes (sym pv) one-bytes;
  old_bytes = subst Bytes (sym pv') none-bytes;
  rest_bytes = subst Bytes (sym pr) bs;
  old_rest_bytes = subst Bytes (sym pr') (shift-bytes (t + t) one one-bytes);
}

pub rows_step : (t : ℕ) (S : ℕ → ℕ) (v v' r r' v'' r'' : List ℕ) (a b c : ℕ) → IsRows t S v v' r r' a b → b ≤ t + 15
    → IsStep (poly r') (poly v') (poly r) (poly v) (poly r'') (poly v'') → b < c
    → c ≤ length r'' → (c < length r'' → get_or r'' c 0 ≢ 0) → LeadingZeros c r'' → LeadingZeros (t + 30 - b) v''
    → IsRows t S v'' v r'' r b c
rows_step t S v v' r r' v'' r'' a b c h l s lc w lead z zv = record {
  euclid = rw (s.rest, s.factor) (euclid_step (t + t) S (poly v) (poly v') (poly r) (poly r') s.quotient h.euclid);
  order = lc;
  padded = (let o = h.order in omega (arith, h.padded));
  above = l;
  within = w;
  leading = lead;
  zeros = z;
  old_zeros = h.zeros;
  room = zv;
  old_room = fewer_zeros (t + 30 - b) (t + 30 - a) v (let o = h.order in omega arith) h.room;
  bytes = subst Bytes (sym s.factor) (plus-bytes (poly v') (times s.quotient (poly v)) h.old_bytes
      (times-bytes s.quotient (poly v)));
  old_bytes = h.bytes;
  rest_bytes = subst Bytes (sym s.rest) (plus-bytes (poly r') (times s.quotient (poly r)) h.old_rest_bytes
      (times-bytes s.quotient (poly r)));
  old_rest_bytes = h.rest_bytes;
}

pub rows_end : (t : ℕ) (S : ℕ → ℕ) (v v' r r' : List ℕ) (a b : ℕ) (w u : List ℕ) → IsRows t S v v' r r' a b
    → t + 15 < b → length v ≡ t + 16 → length v' ≡ t + 16 → length r ≡ t + t + 16 → length r' ≡ t + t + 16
    → w ≡ drop (t + 30 - a) v → u ≡ drop b r → IsSolution t S w u
rows_end t S v v' r r' a b w u h l lv lv' lr lr' ew eu =
    let low : 15 ≤ a = h.padded in
    let high : a ≤ t + 15 = h.above in
    let pw : poly w ≡ poly v = ap poly ew ∙ poly-drop_zeros (t + 30 - a) v h.room in
    let pu : poly u ≡ poly r = ap poly eu ∙ poly-drop_zeros b r h.zeros in
    let lw : length w ≡ a - 15 + 1 = omega (arith, ap length ew, length-drop (t + 30 - a) v) in
    let lu : length u ≡ t + t + 16 - b = omega (arith, ap length eu, length-drop b r) in
    let lo : length (drop a r') ≡ t + t + 16 - a = omega (arith, length-drop a r') in
    let lf : length (drop 15 v') ≡ t + 1 = omega (arith, length-drop 15 v') in
    record {
      v' = poly v';
      r' = poly r';
      w = t + t + 15 - a;
      d = a - 15;
      degree = lw;
      leading = λ s e. h.leading (omega (arith, lu))
          (ap (λ (i : ℕ). get_or r i 0) (sym (add-zero b)) ∙ sym (get_or-drop b r 0 0)
          ∙ ap (λ (x : List ℕ). get_or x 0 0) (sym eu) ∙ e);
      euclid = rw (pw, pu) h.euclid;
      stop = record {
        degrees = omega arith;
        within = omega arith;
        v_low = below_weaken (length w) (suc (a - 15)) (poly w) (omega (arith, lw)) (poly-below w);
        v'_low = subst (Below (suc t)) (poly-drop_zeros 15 v' (fewer_zeros 15 (t + 30 - a) v' (omega arith) h.old_room))
            (below_weaken (length (drop 15 v')) (suc t) (poly (drop 15 v')) (omega (arith, lf))
            (poly-below (drop 15 v')));
        r_low = below_weaken (length u) t (poly u) (omega (arith, lu)) (poly-below u);
        r'_low = subst (Below (suc (t + t + 15 - a))) (poly-drop_zeros a r' h.old_zeros)
            (below_weaken (length (drop a r')) (suc (t + t + 15 - a)) (poly (drop a r'))
            (omega (arith, lo)) (poly-below (drop a r')));
        bytes = subst Bytes (sym pw) h.bytes;
        r_bytes = subst Bytes (sym pu) h.rest_bytes;
      };
    }
