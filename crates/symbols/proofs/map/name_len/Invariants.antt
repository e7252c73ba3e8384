-- The bytes of the name are the `len` so far and those that follow. For the loop of `name_len`.
use Rattle.std.proofs.Common.{◌≡◌, ◌≤◌, ◌-◌, ◌+◌, length, drop}
use Rattle.std.specs.List.{prefix_len}
use Rattle.symbol_spec.specs.Maps.{is_of_name}
use Rattle.symbols.proofs.map.name_len.Given as goal

abbrev pub invariant-bytes : goal.invariant-bytes
invariant-bytes l = (l.len ≤ length l.text) × (prefix_len is_of_name l.text ≡ l.len + prefix_len is_of_name (drop l.len l.text))

abbrev pub decreases-bytes : goal.decreases-bytes
decreases-bytes l = length l.text - l.len
