-- A factor of 0 adds nothing; any other is a power of 2, whose multiple is added. For
-- `add_shifted`.
use Rattle.std.proofs.Common.{ℕ, ◌+◌, get_or, ap, ◌∙◌}
use Rattle.code_spec.specs.Field.{gf_add, gf_mul, gf_pow}
use Rattle.code_laws.proofs.Ring.{mul_comm, add_no_multiple}
use Rattle.rs_decode.proofs.euclid.add_shifted.Goals as goal

pub returns-then-factor-eq0 : goal.returns-then-factor-eq0
returns-then-factor-eq0 c = λ k l.
    add_no_multiple (get_or c.args.word.now k 0) c.args.factor (get_or c.args.other.now (k + c.args.shift) 0)
    c.if-factor-eq0.true

pub returns-then-other-start-le16 : goal.returns-then-other-start-le16
returns-then-other-start-le16 c = λ k l.
    let b : ℕ = get_or c.args.other.now (k + c.args.shift) 0 in
    c.add_shifted_few.ensures k l ∙ ap (gf_add (get_or c.args.word.now k 0))
    (mul_comm b (gf_pow 2 c.log.result) ∙ ap (λ (x : ℕ). gf_mul x b) c.log.ensures.value)

pub returns-else-other-start-le16 : goal.returns-else-other-start-le16
returns-else-other-start-le16 c = λ k l.
    let b : ℕ = get_or c.args.other.now (k + c.args.shift) 0 in
    c.add_shifted_multiple.ensures k l ∙ ap (gf_add (get_or c.args.word.now k 0))
    (mul_comm b (gf_pow 2 c.log-else-other-start-le16.result) ∙ ap (λ (x : ℕ). gf_mul x b) c.log-else-other-start-le16.ensures.value)
