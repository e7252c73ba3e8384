-- The flips of one zone more follow those drawn so far. For `draw_all`.
use Rattle.std.proofs.Common.{arith}
use Rattle.ramoops_layout.proofs.LaidOut.{drop_next}
use Rattle.script_spec.specs.Generated.{drawn_damage}
use Rattle.ram_generator.proofs.Over.{over_more, over_all, drop_all}
use Rattle.ram_generator.proofs.damage.draw_all.Goals as goal

pub zones-preserved : goal.zones-preserved
zones-preserved c = over_more drawn_damage c.zones.flips.items c.draw_damage.new.flips.items _ _ _ c.zones.draws
    c.draw_damage.new.draws _ (drop_next c.args.zones.now c.zones.zone-index _ c.zones-test.true)
    c.in_ok-draw_damage.ensures c.zones.invariant

pub returns : goal.returns
returns c = over_all drawn_damage c.zones.flips.items _ c.zones.draws _
    (drop_all c.args.zones.now c.zones.zone-index (omega (arith, c.zones-test.false))) c.zones.invariant
