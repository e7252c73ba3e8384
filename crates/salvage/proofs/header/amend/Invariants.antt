-- The known bytes below `i` are put in, and the count is how many differed. For the loop of
-- `amend`.
use Rattle.salvage.proofs.Amends.{Amending}
use Rattle.salvage.proofs.header.amend.Given as goal

abbrev pub invariant-loop-i : goal.invariant-loop-i
invariant-loop-i l = Amending l.fn.expected l.fn.bytes l.bytes l.i l.count
