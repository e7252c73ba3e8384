-- The first `k` places have their masks. For the loop of `fill`.
use Rattle.std.proofs.Common.{◌≡◌, length, take}
use Rattle.rs_decode.specs.Fixes.{AreFixes}
use Rattle.rs_decode.proofs.forney.fill.Given as goal

abbrev pub invariant-loop-k : goal.invariant-loop-k
invariant-loop-k l = record {
  len : length l.fixes.items ≡ l.k;
  are : AreFixes l.places l.scale l.evaluator l.powers (take l.k l.powers) l.fixes.items;
}
