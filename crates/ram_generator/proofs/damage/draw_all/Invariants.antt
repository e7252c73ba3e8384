-- The flips so far, and then those of the zones that are left, are all that are drawn. For the loop of `draw_all`.
use Rattle.std.proofs.Common.{◌≡◌, [], drop}
use Rattle.script_spec.specs.Generated.{draw_over, drawn_damage}
use Rattle.ram_generator.proofs.damage.draw_all.Given as goal

abbrev pub invariant-zones : goal.invariant-zones
invariant-zones l = draw_over drawn_damage l.flips.items (drop l.zone-index l.zones) l.draws
    ≡ draw_over drawn_damage [] l.zones l.initial.draws
