-- The stores left are those of the start: no block passed over had a correction. For the loop of
-- `correct_blocks`.
use Rattle.std.proofs.Common.{◌≡◌, ◌-◌}
use Rattle.zone_boot.specs.declared.boots.Phase.TheVariants.{Blocks}
use Rattle.zone_boot.specs.Booting.{left_of, IsKept}
use Rattle.zone_boot.proofs.boots.Boot.correct_blocks.Given as goal

-- the same stores are left
abbrev pub invariant-loop-self : goal.invariant-loop-self
invariant-loop-self l = record {
  left : left_of l.fn.self l.image ≡ left_of l.self l.image;
  zone : l.self.zone ≡ l.fn.self.zone;
  made : l.self.made ≡ l.fn.self.made;
  kept : IsKept l.self;
  phase : l.self.phase ≡ Blocks;
  count : l.self.count ≡ l.fn.self.count;
}

abbrev pub decreases-loop-self : goal.decreases-loop-self
decreases-loop-self l = l.self.count - l.self.block
