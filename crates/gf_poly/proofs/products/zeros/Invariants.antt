-- As many zeros as were counted. For the loop of `zeros`.
use Rattle.std.proofs.Common.{◌≡◌, replicate}
use Rattle.gf_poly.proofs.products.zeros.Given as goal

abbrev pub invariant-loop : goal.invariant-loop
invariant-loop l = l.out.items ≡ replicate l.counter 0
