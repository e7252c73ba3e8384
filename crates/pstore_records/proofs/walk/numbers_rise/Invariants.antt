-- The numbers rise exactly when those of the zones left do from the least on. For the loop of
-- `numbers_rise`.
use Rattle.std.proofs.Common.{◌≡◌, drop}
use Rattle.prz_read.specs.Saving.{saved}
use Rattle.pstore_records.specs.Tables.{numbers_rise}
use Rattle.pstore_records.proofs.walk.numbers_rise.Given as goal

-- the numbers rise where those of the zones that are left do
abbrev pub invariant-loop-i : goal.invariant-loop-i
invariant-loop-i l = numbers_rise 0 (saved l.logs) ≡ numbers_rise l.least (drop l.i (saved l.logs))
