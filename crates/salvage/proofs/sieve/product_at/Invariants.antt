-- The value is the product over the powers so far. For the loop of `product_at`.
use Rattle.std.proofs.Common.{◌≡◌, take}
use Rattle.salvage.specs.Sieves.{product}
use Rattle.salvage.proofs.sieve.product_at.Given as goal

abbrev pub invariant-loop-other : goal.invariant-loop-other
invariant-loop-other l = l.value ≡ product (take l.other-index l.others) l.power
