-- No word so far reserves bytes under the name. For the loop of `reserved_as`.
use Rattle.kernel_line.proofs.Behind.{NoneReserves}
use Rattle.kernel_line.proofs.region.reserved_as.Given as goal

abbrev pub invariant-loop-word : goal.invariant-loop-word
invariant-loop-word l = NoneReserves l.name l.words l.word-index
