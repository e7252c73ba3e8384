-- One zone more adds its shape unless it is known. For `shapes_of`.
use Rattle.std.proofs.Common.{◌+◌, ◌++◌, List, drop, ap, sym, ◌∙◌}
use Rattle.std.proofs.lemmas.List.{drop_more}
use Rattle.std.proofs.lemmas.Option.{slice_get-get_or}
use Rattle.zone_spec.specs.declared.Zone.{Zone}
use Rattle.salvage_spec.specs.Rings.{shapes}
use Rattle.salvage.proofs.ZoneShapes.{unlike, unlike_none, shapes_left, all_gathered}
use Rattle.salvage.proofs.shape.shapes_of.Goals as goal

pub add_shape-requires : goal.add_shape-requires
add_shape-requires c =
    c.requires c.loop-zone.zone-index _ (slice_get-get_or c.args.zones.now c.loop-zone.zone-index _
    c.loop-zone-test.true)

pub loop-zone-init : goal.loop-zone-init
loop-zone-init c =
    ap (λ (f : List Zone). f ++ unlike f (shapes c.args.zones.now)) c.new-shapes.ensures.items
    ∙ unlike_none (shapes c.args.zones.now)

pub loop-zone-preserved : goal.loop-zone-preserved
loop-zone-preserved c =
    ap (λ (f : List Zone). f ++ unlike f (shapes (drop (c.loop-zone.zone-index + 1) c.args.zones.now)))
    c.in_ok-add_shape.ensures
    ∙ shapes_left c.loop-zone.shapes.items _ (drop (c.loop-zone.zone-index + 1) c.args.zones.now)
    ∙ ap (λ (xs : List Zone). c.loop-zone.shapes.items ++ unlike c.loop-zone.shapes.items (shapes xs))
    (sym (drop_more c.args.zones.now c.loop-zone.zone-index _ c.loop-zone-test.true))
    ∙ c.loop-zone.invariant

pub returns : goal.returns
returns c = all_gathered c.loop-zone.shapes.items c.args.zones.now c.loop-zone.zone-index c.loop-zone-test.false
    c.loop-zone.invariant
