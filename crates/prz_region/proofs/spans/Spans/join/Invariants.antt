-- The pieces that are left and the rest lie in one allocation, with the region's bytes end to end.
-- For the loop of `join`.
use Rattle.std.proofs.Common.{◌≡◌, ◌++◌, vec_len}
use Rattle.std.specs.List.{concat}
use Rattle.std.specs.Vec.{vec_ptr}
use Rattle.core.specs.Mem.Slots.{slots_items}
use Rattle.prz_region.specs.Chain.{all_bytes, Laid}
use Rattle.prz_region.proofs.spans.Spans.join.Given as goal

abbrev pub invariant-loop-piece : goal.invariant-loop-piece
invariant-loop-piece l = record {
  laid : Laid (vec_ptr l.shell) (vec_len l.shell) l.list.items l.rest;
  bytes : concat (all_bytes l.list.items) ++ slots_items l.rest ≡ concat l.fn.self.spans ++ l.fn.self.rest;
}

abbrev pub decreases-loop-piece : goal.decreases-loop-piece
decreases-loop-piece l = vec_len l.list
