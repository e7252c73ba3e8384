-- One coefficient of `a` more is one multiple of `b` more, one place on. For `product`.
use Rattle.std.proofs.Common.{◌≡◌, ℕ, ◌+◌, ◌-◌, ◌<◌, List, ◌++◌, ◌∷◌, [], length, get_or, take, drop, sym, ap, ◌∙◌}
use Rattle.std.proofs.Common.{arith, length-append, take_all}
use Rattle.std.proofs.lemmas.List.{length-replicate, take_more}
use Rattle.code_spec.specs.Field.{gf_add, gf_mul}
use Rattle.decoder_laws.specs.Polynomials.{poly}
use Rattle.decoder_laws.specs.Series.{times, plus, scale, cons}
use Rattle.decoder_laws.proofs.Series.{times-none_left}
use Rattle.decoder_laws.proofs.Polynomials.{poly-push, poly-zeros, poly-nil}
use Rattle.gf_poly.proofs.Coefficients.{poly-added_at, times-push, refill_same}
use Rattle.gf_poly.proofs.products.product.Goals as goal

pub loop-i-init : goal.loop-i-init
loop-i-init c =
    let n : ℕ = length c.args.b.now - 1 in
    record {
      len = ap (λ (w : List ℕ). length w + 1) c.zeros.ensures ∙ omega (arith, length-replicate {A = ℕ} n 0);
      product = ap poly c.zeros.ensures ∙ poly-zeros n
          ∙ sym (ap (λ p. times p (poly c.args.b.now)) poly-nil ∙ times-none_left (poly c.args.b.now));
    }

-- one coefficient of a, where n is m plus it times b
step : (a b m n w : List ℕ) (i : ℕ) → i < length a → m ≡ w ++ 0 ∷ [] → length w + 1 ≡ i + length b
    → poly w ≡ times (poly (take i a)) (poly b) → length n ≡ length m
    → ((k : ℕ) → k < i → get_or n k 0 ≡ get_or m k 0)
    → ((k : ℕ) → k < length b → get_or n (i + k) 0 ≡ gf_add (get_or m (i + k) 0) (gf_mul (get_or a i 0) (get_or b k 0)))
    → poly n ≡ times (poly (take (i + 1) a)) (poly b)
step a b m n w i l em lw pw ln front rest =
    let lm : length m ≡ length w + 1 = ap length em ∙ length-append w (0 ∷ []) in
    poly-added_at i (get_or a i 0) n m b ln (omega arith) front rest
    ∙ ap (λ (p : ℕ → ℕ). plus p (scale (get_or a i 0) (poly b))) (ap poly em ∙ poly-push w 0 ∙ ap (cons 0) pw)
    ∙ sym (times-push (take i a) b (get_or a i 0))
    ∙ ap (λ (u : List ℕ). times (poly u) (poly b)) (sym (take_more a i 0 l))

pub loop-i-preserved : goal.loop-i-preserved
loop-i-preserved c =
    let n : List ℕ = c.add_scaled.new.word in
    let m : List ℕ = c.as_mut_slice.result.now in
    let w : List ℕ = c.loop-i.out.items in
    let em : m ≡ w ++ 0 ∷ [] = c.as_mut_slice.ensures.value ∙ c.push.ensures.items in
    let ln : length n ≡ length m = omega arith in
    let whole : take (length c.push.new.self.items) (n ++ drop (length n) c.push.new.self.items)
    ≡ n =
    refill_same c.push.new.self.items n (ln ∙ ap length c.as_mut_slice.ensures.value) in
    record {
      len = ap (λ (u : List ℕ). length u + 1) whole ∙ omega
          (arith, ap length em, length-append w (0 ∷ []), c.loop-i.invariant.len);
      product = ap poly whole ∙ step c.args.a.now c.args.b.now m n w c.loop-i.i c.loop-i-test.true em
          c.loop-i.invariant.len c.loop-i.invariant.product ln c.add_scaled.ensures.front c.add_scaled.ensures.rest;
    }

pub returns : goal.returns
returns c = record {
  len = omega (arith, c.loop-i.invariant.len);
  product = c.loop-i.invariant.product ∙ ap (λ (u : List ℕ). times (poly u) (poly c.args.b.now))
      (take_all c.loop-i.i c.args.a.now c.loop-i-test.false);
}
