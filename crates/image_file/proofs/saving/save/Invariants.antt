-- The first `at` bytes of the image are written, no fault came, a write was asked for or none was
-- needed, and the pieces that are left are those of all but the writes so far. For the loop of `save`.
use Rattle.std.proofs.Common.{◌≡◌, ◌⊎◌, ◌≤◌, ◌-◌, length, take}
use Rattle.outside.specs.Outside.{Rose, Writes}
use Rattle.image_file.specs.Saving.{piece_count, count_after}
use Rattle.image_file.proofs.saving.save.Given as goal

abbrev pub invariant-pieces : goal.invariant-pieces
invariant-pieces g l = (l.at ≤ length l.bytes) × Writes (g.M.Load.holds l.initial.image) (g.M.Load.holds l.image) 0
    (take l.at l.bytes) × (g.M.Load.faults l.image ≡ g.M.Load.faults l.initial.image)
    × ((g.M.Load.writes l.image ≡ g.M.Load.writes l.initial.image)
    ⊎ Rose (g.M.Load.writes l.initial.image) (g.M.Load.writes l.image))
    × (g.M.Load.read_faults l.image ≡ g.M.Load.read_faults l.initial.image)
    × (count_after (piece_count (length l.bytes - l.at)) (g.M.Load.writes l.image)
    ≡ count_after (piece_count (length l.bytes)) (g.M.Load.writes l.initial.image))

abbrev pub decreases-pieces : goal.decreases-pieces
decreases-pieces g l = length l.bytes - l.at
