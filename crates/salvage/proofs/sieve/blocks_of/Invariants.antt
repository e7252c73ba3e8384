-- The blocks so far are blocks, and the next place is no number that wraps. For the loop of `blocks_of`.
use Rattle.std.proofs.Common.{◌≤◌, ◌+◌, ◌*◌, All}
use Rattle.salvage.specs.Sieves.{IsBlock}
use Rattle.salvage.proofs.sieve.blocks_of.Given as goal

abbrev pub invariant-loop-i : goal.invariant-loop-i
invariant-loop-i l = record {
  each : All (IsBlock l.known l.parity) l.blocks.items;
  near : l.from ≤ 4 + 20 * l.i;
}
