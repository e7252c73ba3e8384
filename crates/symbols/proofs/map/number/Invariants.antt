-- The number so far, with the digits from `at` on read into it, is the whole number. For the loop
-- of `number`.
use Rattle.std.proofs.Common.{◌≡◌, ◌≤◌, ◌-◌, ◌+◌, length, drop}
use Rattle.symbol_spec.specs.Maps.{number_after}
use Rattle.symbols.proofs.map.number.Given as goal

abbrev pub invariant-digits : goal.invariant-digits
invariant-digits l = (l.at ≤ length l.digits) × (number_after 0 l.digits ≡ number_after l.number (drop l.at l.digits))

abbrev pub decreases-digits : goal.decreases-digits
decreases-digits l = length l.digits - l.at
