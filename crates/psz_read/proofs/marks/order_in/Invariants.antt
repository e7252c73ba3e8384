-- The blocks left decide as all do. For the loop of `order_in`.
use Rattle.std.proofs.Common.{◌≡◌, ◌-◌, ◌*◌, ◌/◌, length}
use Rattle.psz_spec.specs.Marks.{order_from, order_in}
use Rattle.psz_read.proofs.marks.order_in.Given as goal

abbrev pub invariant-loop-block : goal.invariant-loop-block
invariant-loop-block l =
    order_from (length l.image / 512 - l.block) (l.block * 512) l.image ≡ order_in l.image
