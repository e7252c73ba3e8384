-- The greatest counter so far, and the dumps that are left, give that of all. For the loop of
-- `greatest_counter`.
use Rattle.std.proofs.Common.{◌≡◌, drop}
use Rattle.zone_blk.proofs.Readings.{greatest-from}
use Rattle.blk_spec.specs.Reading.{greatest_counter}
use Rattle.zone_blk.proofs.reading.greatest_counter.Given as goal

-- the rest gives the greatest from here on
abbrev pub invariant-loop-dump : goal.invariant-loop-dump
invariant-loop-dump l = greatest-from l.reason l.most (drop l.dump-index l.dumps) ≡ greatest_counter l.reason l.dumps
