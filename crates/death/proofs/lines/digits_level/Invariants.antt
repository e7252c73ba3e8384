-- The level is that of the digits so far. For the loop of `digits_level`.
use Rattle.std.proofs.Common.{◌≡◌, ◌<◌, ◌-◌, length, drop}
use Rattle.death_spec.specs.Lines.{digits_level}
use Rattle.death.proofs.lines.digits_level.Given as goal

abbrev pub invariant-digits : goal.invariant-digits
invariant-digits l = (l.level < 8) × (digits_level 0 l.digits ≡ digits_level l.level (drop l.at l.digits))

abbrev pub decreases-digits : goal.decreases-digits
decreases-digits l = length l.digits - l.at
