-- No mark stands at a place below `at`. For the loop of `place_of`.
use Rattle.std.proofs.Common.{◌≡◌, ◌≤◌, ◌-◌, ◌+◌, length, drop}
use Rattle.death_spec.specs.Marks.{place_of}
use Rattle.death.proofs.marks.place_of.Given as goal

abbrev pub invariant-bytes : goal.invariant-bytes
invariant-bytes l = (l.at ≤ length l.text) × (place_of l.mark l.text ≡ l.at + place_of l.mark (drop l.at l.text))

abbrev pub decreases-bytes : goal.decreases-bytes
decreases-bytes l = length l.text - l.at
