-- The locator and the evaluator of places that differ, as power series
use Rattle.std.specs.Prelude.{ℕ, List, [], ◌∷◌}
use Rattle.decoder_laws.specs.Series.{plus, scale, one, none, linear}
use Rattle.code_laws.specs.Locators.{Spot}

-- the product of 1 + X x over the spots
unfoldable pub locator : List Spot → ℕ → ℕ
locator [] = one
locator (s ∷ ss) = linear s.X (locator ss)

-- the sum of mask times 1 + X x over the other spots
unfoldable pub evaluator : List Spot → ℕ → ℕ
evaluator [] = none
evaluator (s ∷ ss) = plus (scale s.mask (locator ss)) (linear s.X (evaluator ss))
