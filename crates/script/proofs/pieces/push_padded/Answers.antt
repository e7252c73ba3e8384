-- Digits of a number are never none, so one of them can be left away
use Rattle.std.proofs.Common.{◌+◌, arith}
use Rattle.std.proofs.lemmas.Fmt.{decimal_nonempty}
use Rattle.script.proofs.pieces.push_padded.Goals as goal

pub range_from-requires : goal.range_from-requires
range_from-requires c = λ _. (
  rw c.format.ensures.text (decimal_nonempty (c.args.unit + c.args.parts) (omega (arith, c.requires))),
  λ _ large. absurd (omega (arith, large, c.format.ensures.ascii 1)),
)
