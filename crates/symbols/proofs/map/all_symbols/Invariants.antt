-- The functions of the map are those so far and those from `at` on, and each name so far stands at
-- a place below 2^63. For the loop of `all_symbols`.
use Rattle.std.proofs.Common.{◌≡◌, ◌≤◌, ◌-◌, ◌+◌, ◌++◌, true, length, drop}
use Rattle.symbol_spec.specs.Maps.{symbols_from}
use Rattle.std.specs.List.{All}
use Rattle.symbols.specs.Ranks.{IsInside}
use Rattle.symbols.proofs.map.all_symbols.Given as goal

abbrev pub invariant-bytes : goal.invariant-bytes
invariant-bytes l =
    record {
      within : l.at ≤ length l.text;
      inside : All IsInside l.all.items;
      so_far : symbols_from true 0 l.text ≡ l.all.items ++ symbols_from l.begins l.at (drop l.at l.text);
    }

abbrev pub decreases-bytes : goal.decreases-bytes
decreases-bytes l = length l.text - l.at
