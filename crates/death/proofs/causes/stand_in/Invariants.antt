-- The words stand at no place below `at`. For the loop of `stand_in`.
use Rattle.std.proofs.Common.{◌≡◌, ◌≤◌, ◌-◌, length, drop}
use Rattle.death_spec.specs.Causes.{stand_in}
use Rattle.death.proofs.causes.stand_in.Given as goal

abbrev pub invariant-bytes : goal.invariant-bytes
invariant-bytes l =
    (l.at ≤ length l.text) × (stand_in l.fn.words l.text ≡ stand_in l.fn.words (drop l.at l.text))

abbrev pub decreases-bytes : goal.decreases-bytes
decreases-bytes l = length l.text - l.at
