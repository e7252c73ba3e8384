-- The words from here decide. For the loop of `landmark_end`.
use Rattle.std.proofs.Common.{◌≡◌, ◌≤◌, length}
use Rattle.death_spec.specs.Fronts.{landmark_end}
use Rattle.death.proofs.prefixes.landmark_end.Given as goal

abbrev pub invariant-words : goal.invariant-words
invariant-words l =
    (l.at ≤ length l.text)
    × (landmark_end l.landmark l.words l.text l.from ≡ landmark_end l.landmark l.left l.text l.at)

abbrev pub decreases-words : goal.decreases-words
decreases-words l = l.left
