-- A digit more makes the number one digit longer, and one too many makes it none. For
-- `leading_number`.
use Rattle.std.proofs.Common.{◌≡◌, ◌<◌, length, get_or, false, sym, ◌∙◌, arith}
use Rattle.std.specs.Char.{is_ascii_digit}
use Rattle.dump_records.proofs.Digits.{IsRead-more, number_at-read, number_at-long, room}
use Rattle.dump_records.proofs.leading_number.Goals as goal
use Rattle.dump_records.proofs.leading_number.Goals.{then-loop-len-test+else-is_ascii_digit, else-loop-len-test}

pub returns-then-len-most-clause-number : goal.returns-then-len-most-clause-number
returns-then-len-most-clause-number c =
    number_at-long c.args.most c.args.text.now c.loop-len.value c.loop-len.len c.loop-len.invariant.read
    c.loop-len-test.true
    (sym c.is_ascii_digit.ensures.value ∙ c.if-is_ascii_digit.true) c.if-len-most.true

pub overflow_mul-value : goal.overflow_mul-value
overflow_mul-value c =
    omega (
      arith,
      room c.loop-len.value c.loop-len.len c.loop-len.invariant.read.small
          (omega (arith, c.loop-len.invariant.within, c.if-len-most.false, c.requires)),
    )

pub overflow_add-value : goal.overflow_add-value
overflow_add-value c =
    omega (
      arith,
      room c.loop-len.value c.loop-len.len c.loop-len.invariant.read.small
          (omega (arith, c.loop-len.invariant.within, c.if-len-most.false, c.requires)),
      c.from.ensures,
      c.type_inv.text c.loop-len.len,
    )

pub loop-len-preserved : goal.loop-len-preserved
loop-len-preserved c = record {
  read = rw c.from.ensures (IsRead-more c.args.text.now c.loop-len.value c.loop-len.len c.loop-len.invariant.read
      c.loop-len-test.true
      (sym c.is_ascii_digit.ensures.value ∙ c.if-is_ascii_digit.true) c.if-is_ascii_digit.ensures.cases.1);
  within = omega (arith, c.loop-len.invariant.within, c.if-len-most.false);
}

pub returns-clause-number : goal.returns-clause-number
returns-clause-number c =
    let stops : c.loop-len.len < length c.args.text.now → is_ascii_digit (get_or c.args.text.now c.loop-len.len 0)
    ≡ false = elim c.loop-len-test.branch [
      | then-loop-len-test+else-is_ascii_digit w ↦ λ _. sym w.is_ascii_digit.ensures.value ∙ w.if-is_ascii_digit.false
      | else-loop-len-test w ↦ λ lt. absurd (omega (arith, lt, w.loop-len-test.false))
    ] in
    number_at-read c.args.most c.args.text.now c.loop-len.value c.loop-len.len c.loop-len.invariant.read stops
    (omega (arith, c.if-len-eq0.false)) c.loop-len.invariant.within

pub returns-clause-small : goal.returns-clause-small
returns-clause-small c = c.loop-len.invariant.read.small
