-- Under the leading zeros of `other` nothing is added; the rest is. For
-- `add_shifted_few`.
use Rattle.std.proofs.Common.{◌+◌, get_or, inl, inr, refl, ◌∙◌, arith}
use Rattle.std.proofs.lemmas.Bool.{cases_lt}
use Rattle.std.proofs.lemmas.List.{get_or_past}
use Rattle.code_spec.specs.Field.{gf_pow}
use Rattle.code_laws.proofs.Ring.{add_no_multiple}
use Rattle.rs_decode.proofs.euclid.add_shifted_few.Goals as goal

pub loop-i-init : goal.loop-i-init
loop-i-init c = record {
  done = λ k l. add_no_multiple (get_or c.args.word.now k 0) (get_or c.args.other.now (k + c.args.shift) 0)
      (gf_pow 2 c.args.power) (c.requires.zeros.at (k + c.args.shift) (omega (arith, l)));
  rest = λ k l. refl;
}

pub returns : goal.returns
returns c = λ k l. elim (cases_lt (k + c.args.shift) c.loop-i.i) [
  | inl h ↦ c.loop-i.invariant.done k h
  | inr h ↦ c.loop-i.invariant.rest k h ∙ add_no_multiple (get_or c.args.word.now k 0)
      (get_or c.args.other.now (k + c.args.shift) 0) (gf_pow 2 c.args.power)
      (get_or_past c.args.other.now (k + c.args.shift) 0 (omega arith))
]
