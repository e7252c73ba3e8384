-- The slot holds what was seen of the zone, and the others what they held. For `keep`.
use Rattle.std.proofs.Common.{◌<◌, length, refl, arith}
use Rattle.layout_search.specs.declared.sights.Sight.{Sight}
use Rattle.layout_search.proofs.Slots.{one_more_seen}
use Rattle.layout_search.proofs.sights.keep.Goals as goal

pub returns-then-slots-gt0 : goal.returns-then-slots-gt0
returns-then-slots-gt0 c = λ image seen look.
    let sight : Sight = record { zone = c.args.zone.now; look = c.args.look } in
    let inside : c.slot_of.result < length c.args.sights.now.slots.items =
    omega (arith, c.slot_of.ensures, c.len-slots.ensures) in
    one_more_seen image c.args.sights.now _ c.slot_of.result sight inside refl refl look seen
