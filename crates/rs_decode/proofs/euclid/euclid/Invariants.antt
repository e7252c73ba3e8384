-- The two rows are those of Euclid's algorithm on the syndromes. For the loop of `euclid`.
use Rattle.std.proofs.Common.{◌+◌, ◌-◌}
use Rattle.decoder_laws.specs.Polynomials.{poly}
use Rattle.rs_decode.specs.Rows.{IsRows}
use Rattle.rs_decode.proofs.euclid.euclid.Given as goal

abbrev pub invariant-loop-b : goal.invariant-loop-b
invariant-loop-b l = IsRows l.t (poly l.fn.rest_b) l.factor_b l.factor_a l.rest_b l.rest_a l.a l.b

abbrev pub decreases-loop-b : goal.decreases-loop-b
decreases-loop-b l = l.t + 16 - l.b
