-- The header's flips and then the blocks' are the zone's damage. For `draw_damage`.
use Rattle.std.proofs.Common.{refl, arith}
use Rattle.zone_spec.specs.Parts.{Header}
use Rattle.ram_generator.proofs.PartFlips.{zone_drawn}
use Rattle.ram_generator.proofs.damage.draw_damage.Goals as goal

pub returns : goal.returns
returns c = zone_drawn c.args.zone.now c.args.draws.now c.draw_flips.new.draws c.args.flips.now.items
    c.draw_flips.new.flips.items _ (c.in_ok-draw_flips.ensures c.args.zone.now Header (omega arith) refl)
    c.in_ok-draw_blocks.ensures
