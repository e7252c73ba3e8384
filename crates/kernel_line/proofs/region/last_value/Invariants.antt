-- The last value of the words so far, behind which the rest may have another. For the loop of `last_value`.
use Rattle.std.specs.Option.{option_copied}
use Rattle.kernel_line.proofs.Behind.{SeenLast}
use Rattle.kernel_line.proofs.region.last_value.Given as goal

abbrev pub invariant-loop-word : goal.invariant-loop-word
invariant-loop-word l = SeenLast l.front l.words l.word-index (option_copied l.last)
