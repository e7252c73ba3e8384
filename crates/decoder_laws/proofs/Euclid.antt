-- Euclid's algorithm begins with two solutions of the key equation, and each step keeps them. For the loop of `euclid`
-- in rs_decode.
use Rattle.std.proofs.Common.{◌≡◌, ℕ, sym, ap, ap₂, ◌∙◌}
use Rattle.decoder_laws.specs.Series.{plus, times, shift, none, one, Bytes}
use Rattle.decoder_laws.specs.Euclid.{IsEuclid, IsStep}
use Rattle.decoder_laws.proofs.Series.{times-plus_left, times_assoc, times-none_left, plus-none, times-one_left}
use Rattle.decoder_laws.proofs.Series.{shift_below, series, plus_assoc, one-bytes, shift-bytes, plus-agree}
use Rattle.decoder_laws.proofs.Series.{agree_from_equal, times-agree}

pub euclid_start : (n : ℕ) (S : ℕ → ℕ) → Bytes S → IsEuclid n S one none S (shift n one)
unfolding none
euclid_start n S b = record {
  solves = record { at = λ k l. ap (λ (f : ℕ → ℕ). f k) (times-one_left S b) };
  solved = record { at = λ k l. ap (λ (f : ℕ → ℕ). f k) (times-none_left S) ∙ sym (shift_below n k one l) };
  determinant = ap₂ plus (times-one_left (shift n one) (shift-bytes n one one-bytes)) (times-none_left S)
      ∙ plus-none (shift n one);
}

pub euclid_step : (n : ℕ) (S v v' r r' q : ℕ → ℕ) → IsEuclid n S v v' r r'
    → IsEuclid n S (plus v' (times q v)) v (plus r' (times q r)) r
euclid_step n S v v' r r' q h = record {
  solves = agree_from_equal n (times (plus v' (times q v)) S) (plus (times v' S) (times q (times v S)))
      (plus r' (times q r))
      (times-plus_left v' (times q v) S ∙ ap (plus (times v' S)) (times_assoc q v S))
      (plus-agree n (times v' S) r' (times q (times v S)) (times q r) h.solved
      (times-agree n q (times v S) r h.solves));
  solved = h.solves;
  determinant = alg v v' r r' q ∙ h.determinant;
}
  where
    alg : (v v' r r' q : ℕ → ℕ) → plus (times (plus v' (times q v)) r) (times v (plus r' (times q r)))
        ≡ plus (times v r') (times v' r)
    alg v v' r r' q = simp series

pub step_none : (r v r' v' : ℕ → ℕ) → IsStep r v r' v' r v
step_none r v r' v' = record {
  quotient = none;
  rest = sym (ap (plus r) (times-none_left r') ∙ plus-none r);
  factor = sym (ap (plus v) (times-none_left v') ∙ plus-none v);
}

pub step_more : (r v r' v' a c a' c' q : ℕ → ℕ) → IsStep r v r' v' a c → a' ≡ plus a (times q r')
    → c' ≡ plus c (times q v') → IsStep r v r' v' a' c'
step_more r v r' v' a c a' c' q h ea ec = record {
  quotient = plus h.quotient q;
  rest = ea ∙ ap (λ (p : ℕ → ℕ). plus p (times q r')) h.rest ∙ alg r h.quotient q r';
  factor = ec ∙ ap (λ (p : ℕ → ℕ). plus p (times q v')) h.factor ∙ alg v h.quotient q v';
}
  where
    alg : (r p q s : ℕ → ℕ) → plus (plus r (times p s)) (times q s) ≡ plus r (times (plus p q) s)
    alg r p q s = plus_assoc r (times p s) (times q s) ∙ ap (plus r) (sym (times-plus_left p q s))
