-- The symbols so far. For the loop of `copy_to`.
use Rattle.std.proofs.Common.{◌≡◌, take}
use Rattle.gf_poly.proofs.products.copy_to.Given as goal

abbrev pub invariant-loop-c : goal.invariant-loop-c
invariant-loop-c l = l.out.items ≡ take l.c-index l.word
