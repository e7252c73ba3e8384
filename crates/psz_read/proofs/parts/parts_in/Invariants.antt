-- The parts so far, and those of the zones left, are all parts. For the loop of `parts_in`.
use Rattle.std.proofs.Common.{◌≡◌, ◌++◌, drop}
use Rattle.psz_spec.specs.Layouts.{zones_of}
use Rattle.psz_spec.specs.Parts.{read_order, parts_of}
use Rattle.psz_read.proofs.parts.parts_in.Given as goal

abbrev pub invariant-loop-index : goal.invariant-loop-index
invariant-loop-index l = l.parts.items ++ parts_of l.machine (drop l.index (read_order (zones_of l.sizes))) l.image
    ≡ parts_of l.machine (read_order (zones_of l.sizes)) l.image
