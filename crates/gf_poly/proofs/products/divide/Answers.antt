-- One coefficient of `a` more is one of the quotient more. For `divide`.
use Rattle.std.proofs.Common.{◌≡◌, ℕ, ◌-◌, List, [], length, get_or, take, sym, ap, ap₂, ◌∙◌, arith, length-take-le}
use Rattle.std.proofs.lemmas.List.{take_more}
use Rattle.decoder_laws.specs.Series.{times, plus, scale}
use Rattle.decoder_laws.specs.Polynomials.{poly}
use Rattle.gf_poly.proofs.Coefficients.{undivided, divided}
use Rattle.gf_poly.proofs.products.divide.Goals as goal

-- with no quotient yet
begun : (a b q r : List ℕ) → q ≡ [] → r ≡ a → poly a ≡ plus (times (poly b) (poly q)) (poly r)
begun a b q r eq er = undivided b a
    ∙ ap₂ (λ (u w : List ℕ). plus (times (poly b) (poly u)) (poly w)) (sym eq) (sym er)

pub returns-then-a-b-clause-value : goal.returns-then-a-b-clause-value
returns-then-a-b-clause-value c =
    begun c.args.a.now c.args.b.now c.clear.new.self.items c.copy_to.new.out.items c.clear.ensures c.copy_to.ensures

pub loop-i-init : goal.loop-i-init
loop-i-init c =
    let s : ℕ = length c.args.b.now - 1 in
    let r : c.copy_to-2.new.out.items ≡ take s c.args.a.now = c.copy_to-2.ensures in
    record {
      rest = omega (arith, ap length r, length-take-le s c.args.a.now (omega arith));
      quotient = omega (arith, ap length c.clear.ensures);
      value = begun (take s c.args.a.now) c.args.b.now c.clear.new.self.items c.copy_to-2.new.out.items
          c.clear.ensures r;
    }

pub loop-i-preserved : goal.loop-i-preserved
loop-i-preserved c =
    let i : ℕ = c.loop-i.i in
    let a : List ℕ = c.args.a.now in
    record {
      rest = c.divide_step-factor.ensures.len;
      quotient = omega (arith, c.push-in-loop-i.ensures.len, c.loop-i.invariant.quotient);
      value =
          ap poly (take_more a i 0 (omega arith))
          ∙ divided (take i a) c.args.b.now c.loop-i.quotient.items c.loop-i.rest.items
          (get_or a i 0) c.divide_step-factor.result c.divide_step-factor.new.rest.items
          c.loop-i.invariant.value
          (c.divide_step-factor.ensures.rest ∙ ap (λ (w : List ℕ). plus (poly w)
          (scale c.divide_step-factor.result (poly c.args.b.now))) c.push.ensures.items)
          ∙ ap (λ (w : List ℕ). plus (times (poly c.args.b.now) (poly w)) (poly c.divide_step-factor.new.rest.items))
          (sym c.push-in-loop-i.ensures.items);
    }
