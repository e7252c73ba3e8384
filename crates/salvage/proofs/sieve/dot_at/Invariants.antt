-- The sum so far and what is left are the whole. For the loop of `dot_at`.
use Rattle.std.proofs.Common.{◌≡◌, ◌+◌, drop}
use Rattle.std.specs.Prelude.{slice_index}
use Rattle.code_spec.specs.Field.{gf_add}
use Rattle.salvage.specs.Sieves.{dot}
use Rattle.salvage.proofs.sieve.dot_at.Given as goal

abbrev pub invariant-loop-j : goal.invariant-loop-j
invariant-loop-j l = gf_add l.sum (dot (drop l.j l.factors) (slice_index l.sums) (l.start + l.j))
    ≡ dot l.factors (slice_index l.sums) l.start
