-- The first `at` bytes of the buffer are those of the image, which is as before. For the loop of
-- `read_pieces`.
use Rattle.std.proofs.Common.{◌≡◌, ◌≤◌, ◌-◌, vec_len, take, IfSome}
use Rattle.image_file.proofs.loading.read_pieces.Given as goal

abbrev pub invariant-pieces : goal.invariant-pieces
invariant-pieces g l = (l.at ≤ l.size) × (vec_len l.bytes ≡ l.size)
    × (g.M.Load.holds l.image ≡ g.M.Load.holds l.initial.image)
    × IfSome (g.M.Load.holds l.initial.image) (λ bs. take l.at l.bytes.items ≡ take l.at bs)
    × (g.M.Load.faults l.image ≡ g.M.Load.faults l.initial.image)
    × (g.M.Load.writes l.image ≡ g.M.Load.writes l.initial.image)
    × (g.M.Load.read_faults l.image ≡ g.M.Load.read_faults l.initial.image)

abbrev pub decreases-pieces : goal.decreases-pieces
decreases-pieces g l = l.size - l.at
