-- The digits at the front are the `len` so far and those that follow. For the loop of `digits`.
use Rattle.std.proofs.Common.{◌≡◌, ◌≤◌, ◌-◌, ◌+◌, length, drop}
use Rattle.symbol_spec.specs.Maps.{digits}
use Rattle.symbols.proofs.map.digits.Given as goal

abbrev pub invariant-digits : goal.invariant-digits
invariant-digits l = (l.len ≤ length l.text) × (digits l.text ≡ l.len + digits (drop l.len l.text))

abbrev pub decreases-digits : goal.decreases-digits
decreases-digits l = length l.text - l.len
