-- The pages so far are those of the front that was read. For the loop of `marked_pages`.
use Rattle.std.proofs.Common.{◌≡◌, ◌<◌, ◌≤◌, ◌%◌, ◌-◌, vec_len}
use Rattle.memory_regions.proofs.NextPiece.{HasPages}
use Rattle.memory_regions.proofs.pages.marked_pages.Given as goal

abbrev pub invariant-pieces : goal.invariant-pieces
invariant-pieces g l = record {
  within : l.left ≤ l.size;
  whole : 0 < l.left → (l.size - l.left) % 4096 ≡ 0;
  room : vec_len l.piece ≡ 1048576;
  holds : g.M.Load.holds l.memory ≡ g.M.Load.holds l.fn.memory;
  pages : HasPages (g.M.Load.holds l.fn.memory) l.size (l.size - l.left) l.pages.items;
  no_fault : g.M.Load.faults l.memory ≡ g.M.Load.faults l.fn.memory;
}

abbrev pub decreases-pieces : goal.decreases-pieces
decreases-pieces g l = l.left
