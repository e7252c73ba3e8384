-- A number that orders functions: by their addresses, and at one address the first of the map is the highest
use Rattle.std.specs.Prelude.{ℕ, ◌+◌, ◌*◌, ◌-◌, ◌^◌, ◌<◌, List}
use Rattle.std.specs.List.{All}
use Rattle.std.specs.List.Sorted.{IsNonDecreasingBy}
use Rattle.symbol_spec.specs.declared.Symbol.{Symbol}

abbrev pub rank : Symbol → ℕ
rank s = 2 ^ 64 * s.address + (2 ^ 64 - 1 - s.name)

-- as of any map that memory holds
abbrev pub IsInside : Symbol → Type 0
IsInside s = s.name < 2 ^ 63

pub record IsRanked (symbols : List Symbol) : Type 0 where
  pub ranked : IsNonDecreasingBy rank symbols
  pub inside : All IsInside symbols
