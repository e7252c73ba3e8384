-- The first `i` coefficients of `a` are divided. For the loop of `divide`.
use Rattle.std.proofs.Common.{◌≡◌, ◌+◌, take, length}
use Rattle.decoder_laws.specs.Polynomials.{poly}
use Rattle.decoder_laws.specs.Series.{times, plus}
use Rattle.gf_poly.proofs.products.divide.Given as goal

abbrev pub invariant-loop-i : goal.invariant-loop-i
invariant-loop-i l = record {
  rest : length l.rest.items + 1 ≡ length l.b;
  quotient : length l.quotient.items + length l.b ≡ l.i + 1;
  value : poly (take l.i l.a) ≡ plus (times (poly l.b) (poly l.quotient.items)) (poly l.rest.items);
}
