-- Six digits of the microseconds stand after the leading 1, and the pieces fit in 36 bytes. For
-- `line`.
use Rattle.std.proofs.Common.{◌≡◌, ◌≤◌, ◌+◌, length, ap, arith, refl}
use Rattle.std.proofs.lemmas.Fmt.{decimal_nonempty}
use Rattle.dump_records.proofs.Decimals.{secs-short, micros-short}
use Rattle.dump_records.proofs.line.Goals as goal
use Rattle.dump_records.proofs.line.Goals.{then-packed, else-packed}

pub range_from-requires : goal.range_from-requires
range_from-requires c = λ _. (
  rw c.format-2.ensures.text (decimal_nonempty (1000000 + c.args.time.micros) (omega (arith, c.requires.micros))),
  λ _ large. absurd (omega (arith, large, c.format-2.ensures.ascii 1)),
)

pub push_str-requires-5 : goal.push_str-requires-5
push_str-requires-5 c =
    let flag : length c.if-packed.push_str.now ≡ 3 = elim c.if-packed.branch [
      | then-packed w ↦
          rw w.push_str-is refl
      | else-packed w ↦ rw w.push_str-is refl
    ] in
    let secs : length c.format.result.now ≤ 19 = rw c.format.ensures.text
    (secs-short c.args.time.secs c.requires.secs) in
    let micros : length c.format-2.result.now ≤ 7 = rw c.format-2.ensures.text
    (micros-short c.args.time.micros c.requires.micros) in (
      omega arith,
      omega (
        arith,
        flag,
        secs,
        micros,
        ap length c.clear.ensures,
        c.push_str.ensures.len,
        c.push_str-2.ensures.len,
        c.push_str-3.ensures.len,
        c.push_str-4.ensures.len,
        c.range_from.ensures.len,
      ),
    )
