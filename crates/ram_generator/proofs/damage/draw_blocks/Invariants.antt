-- The flips so far, and then those of the blocks that are left, are the zone's. For the loop of `draw_blocks`.
use Rattle.std.proofs.Common.{◌≡◌, ◌≤◌}
use Rattle.script_spec.specs.Generated.{draw_over, drawn_flips}
use Rattle.ram_generator.specs.Damage.{blocks_of}
use Rattle.ram_generator.proofs.PartFlips.{blocks_left}
use Rattle.ram_generator.proofs.damage.draw_blocks.Given as goal

abbrev pub invariant-parts : goal.invariant-parts
invariant-parts l = (l.b ≤ l.blocks) × (draw_over (drawn_flips l.most l.zone) l.flips.items (blocks_left l.b l.blocks)
    l.draws ≡ draw_over (drawn_flips l.most l.zone) l.initial.flips.items (blocks_of l.zone) l.initial.draws)
