-- So many errors stand before the end of the last block. For the loop of `Sieve::is_far`.
use Rattle.std.proofs.Common.{ℕ, ◌+◌, ◌*◌, ◌≤◌, List, drop}
use Rattle.code_spec.specs.Code.{distance}
use Rattle.salvage.specs.Sieves.{IsKnownWord}
use Rattle.salvage.proofs.sieve.Sieve.is_far.Given as goal

abbrev pub invariant-loop-block : goal.invariant-loop-block
invariant-loop-block l = record {
  far : (d : List ℕ) → IsKnownWord l.self-inside.known l.self-inside.parity d
      → l.count + distance (drop l.end l.word) (drop l.end d) ≤ distance l.word d;
  small : l.count ≤ 4 * l.block-index;
}
