-- The first term is the mask times the power to the first: if it is 0, nothing is added, and else its product with each
-- power. For `add_fix`.
use Rattle.std.proofs.Common.{◌≡◌, ◌+◌, ◌*◌, ℕ, get_or, sym, ap, ◌∙◌}
use Rattle.code_spec.specs.Field.{gf_add, gf_mul, gf_pow}
use Rattle.code_laws.proofs.Ring.{add_no_multiple, mul_assoc, pow_add}
use Rattle.code_laws.proofs.Words.{pow_pow}
use Rattle.rs_decode.proofs.mending.add_fix.Goals as goal

term_is : (t m e p first k : ℕ) → e ≡ gf_pow 2 (p * first) → t ≡ gf_mul m e
    → gf_mul t (gf_pow (gf_pow 2 p) k) ≡ gf_mul m (gf_pow (gf_pow 2 p) (first + k))
term_is t m e p first k ee et =
    ap (λ (x : ℕ). gf_mul x (gf_pow (gf_pow 2 p) k)) (et ∙ ap (gf_mul m) (ee ∙ sym (pow_pow 2 p first)))
    ∙ mul_assoc m (gf_pow (gf_pow 2 p) first) (gf_pow (gf_pow 2 p) k)
    ∙ ap (gf_mul m) (sym (pow_add (gf_pow 2 p) first k))

pub returns-then-term-eq0 : goal.returns-then-term-eq0
returns-then-term-eq0 c = λ k l.
    add_no_multiple (get_or c.args.values.now k 0) c.mul-term.result (gf_pow (gf_pow 2 c.args.power) k)
    c.if-term-eq0.true
    ∙ ap (gf_add (get_or c.args.values.now k 0)) (term_is c.mul-term.result c.args.mask c.antilog.result c.args.power
    c.args.first k c.antilog.ensures c.mul-term.ensures)

pub returns : goal.returns
returns c = λ k l. c.add_terms.ensures k l
    ∙ ap (gf_add (get_or c.args.values.now k 0))
    (ap (λ (x : ℕ). gf_mul x (gf_pow (gf_pow 2 c.args.power) k)) c.log.ensures.value
    ∙ term_is c.mul-term.result c.args.mask c.antilog.result c.args.power c.args.first k c.antilog.ensures
    c.mul-term.ensures)
