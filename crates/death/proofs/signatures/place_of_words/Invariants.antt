-- The words stand at no place below `at`. For the loop of `place_of_words`.
use Rattle.std.proofs.Common.{◌≡◌, ◌≤◌, ◌-◌, ◌+◌, length, drop}
use Rattle.death_spec.specs.Signatures.{place_of_words}
use Rattle.death.proofs.signatures.place_of_words.Given as goal

abbrev pub invariant-bytes : goal.invariant-bytes
invariant-bytes l =
    (l.at ≤ length l.text) × (place_of_words l.words l.text ≡ l.at + place_of_words l.words (drop l.at l.text))

abbrev pub decreases-bytes : goal.decreases-bytes
decreases-bytes l = length l.text - l.at
