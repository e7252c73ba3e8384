-- The roots found so far, and those of the powers left, are the roots at the start and those of all. For the loop of
-- `take_roots`.
use Rattle.std.proofs.Common.{◌≡◌, ◌≤◌, ◌+◌, ◌-◌, ◌++◌, ℕ, List, length, take}
use Rattle.decoder_laws.specs.Chien.{roots_of}
use Rattle.rs_decode.specs.Fixes.{AreValues}
use Rattle.rs_decode.proofs.roots.take_roots.Given as goal

abbrev pub invariant-loop-k : goal.invariant-loop-k
invariant-loop-k l = record {
  more : l.n ≤ l.count + l.k;
  len : length l.found ≡ length l.fn.found;
  roots : (v : List ℕ) → AreValues v l.left l.values
      → take l.n l.found ++ roots_of v (l.left - l.k) ≡ take l.count l.fn.found ++ roots_of v l.left;
}
