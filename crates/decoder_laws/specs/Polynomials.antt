-- The polynomial of a list of coefficients, that of the highest power first
use Rattle.std.specs.Prelude.{ℕ, List, [], ◌∷◌, ◌≡◌, ◌<◌, slice_index}
use Rattle.decoder_laws.specs.Series.{cons, none}

-- the coefficients of w, and behind them those of p
abbrev pub poly_on : (ℕ → ℕ) → List ℕ → ℕ → ℕ
poly_on p [] = p
poly_on p (c ∷ w) = poly_on (cons c p) w

unfoldable pub poly : List ℕ → ℕ → ℕ
poly w = poly_on none w

-- the first n symbols are zero
pub record LeadingZeros (n : ℕ) (w : List ℕ) : Type 0 where
  pub at : (k : ℕ) → k < n → slice_index w k ≡ 0
