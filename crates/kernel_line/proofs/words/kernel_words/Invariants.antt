-- The words of the line so far are read, and the rest is what follows. For the loop of `kernel_words`.
use Rattle.std.proofs.Common.{length}
use Rattle.kernel_line.proofs.WordLoop.{AreRead}
use Rattle.kernel_line.proofs.words.kernel_words.Given as goal

abbrev pub invariant-words : goal.invariant-words
invariant-words l = AreRead l.words.items l.line l.rest

abbrev pub decreases-words : goal.decreases-words
decreases-words l = length l.rest
