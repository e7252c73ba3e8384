-- The number is that of the first `len` digits, at most the limit. For the loop of
-- `leading_number`.
use Rattle.std.proofs.Common.{length, ◌-◌, ◌≤◌}
use Rattle.dump_records.proofs.Digits.{IsRead}
use Rattle.dump_records.proofs.leading_number.Given as goal

abbrev pub invariant-loop-len : goal.invariant-loop-len
invariant-loop-len l = record { read : IsRead l.text l.value l.len; within : l.len ≤ l.most }

abbrev pub decreases-loop-len : goal.decreases-loop-len
decreases-loop-len l = length l.text - l.len
