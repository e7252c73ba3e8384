-- Stores that were made into a region, each with the number of its span
use Rattle.std.specs.Prelude.{ℕ, ◌+◌, List, [], ◌∷◌, map}
use Rattle.zone_spec.specs.Stores.{Store}

-- one store: the number of its span, its place there, and the values that it put
pub record Write (T : Type 0) : Type 0 where
  pub span : ℕ
  pub place : ℕ
  pub values : List T

-- these stores in the i-th span
abbrev pub in_span : ℕ → List Store → List (Write ℕ)
in_span i stores = map (λ (s : Store). record { span = i; place = s.place; values = s.bytes }) stores

-- a store for each of these values in the i-th span, from a place on, rising
unfoldable pub run_writes : {T : Type 0} → ℕ → ℕ → List T → List (Write T)
run_writes i at [] = []
run_writes i at (v ∷ vs) = record { span = i; place = at; values = v ∷ [] } ∷ run_writes i (at + 1) vs
