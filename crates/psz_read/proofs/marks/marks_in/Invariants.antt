-- The marks so far, and those of the blocks left, are all marks. For the loop of `marks_in`.
use Rattle.std.proofs.Common.{◌≡◌, ◌++◌, ◌-◌, ◌*◌, ◌/◌, length}
use Rattle.psz_spec.specs.Marks.{marks_from, marks_in}
use Rattle.psz_read.proofs.marks.marks_in.Given as goal

abbrev pub invariant-loop-block : goal.invariant-loop-block
invariant-loop-block l =
    l.marks.items ++ marks_from l.order (length l.image / 512 - l.block) (l.block * 512) l.image
    ≡ marks_in l.order l.image
