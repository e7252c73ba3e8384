-- A place more is outside and unknown, and its power is one of them, or it is not. For `powers_outside`.
use Rattle.std.proofs.Common.{◌≡◌, ℕ, ◌-◌, List, [], ◌∷◌, ◌++◌, length, ap, sym, ◌∙◌, arith, below_more, true, false}
use Rattle.salvage.specs.Sieves.{product}
use Rattle.salvage.proofs.BlockFactors.{product_own, product_still}
use Rattle.salvage.proofs.sieve.powers_outside.Goals as goal
use Rattle.salvage.proofs.sieve.powers_outside.Goals.{then-is_other, else-is_other}

pub loop-j-preserved : goal.loop-j-preserved
loop-j-preserved c = elim c.if-is_other.branch [
  | then-is_other w ↦ (
      let pushed : c.if-is_other.powers.items ≡ c.loop-j.powers.items ++ (c.args.places - 1 - c.loop-j.j) ∷ [] =
      ap (λ v. v.items) w.powers-is ∙ w.push.ensures.items in
      record {
        zero = below_more _ _
            (λ k l out unknown. ap (λ (ms : List ℕ). product ms (c.args.places - 1 - k)) pushed
            ∙ product_still c.loop-j.powers.items (c.args.places - 1 - c.loop-j.j) (c.args.places - 1 - k)
            (c.loop-j.invariant.zero k l out unknown))
            (λ out unknown. ap (λ (ms : List ℕ). product ms (c.args.places - 1 - c.loop-j.j)) pushed
            ∙ product_own c.loop-j.powers.items (c.args.places - 1 - c.loop-j.j));
        few = omega (arith, ap (λ v. length v.items) w.powers-is, w.push.ensures.len, c.loop-j.invariant.few);
      })
  | else-is_other w ↦ record {
    zero = below_more _ _
        (λ k l out unknown. ap (λ v. product v.items (c.args.places - 1 - k)) w.powers-is
        ∙ c.loop-j.invariant.zero k l out unknown)
        (λ out unknown. absurd (let t : c.is_other.result ≡ true = c.is_other.ensures.1 (out, unknown) in
        let bad : true ≡ false = sym t ∙ w.if-is_other.false in cc));
    few = omega (arith, ap (λ v. length v.items) w.powers-is, c.loop-j.invariant.few);
  }
]
