-- The product of the first `i` coefficients of `a` and of `b`. For the loop of `product`.
use Rattle.std.proofs.Common.{◌≡◌, ◌+◌, take, length}
use Rattle.decoder_laws.specs.Polynomials.{poly}
use Rattle.decoder_laws.specs.Series.{times}
use Rattle.gf_poly.proofs.products.product.Given as goal

abbrev pub invariant-loop-i : goal.invariant-loop-i
invariant-loop-i l = record {
  len : length l.out.items + 1 ≡ l.i + length l.b;
  product : poly l.out.items ≡ times (poly (take l.i l.a)) (poly l.b);
}
