-- What the slot holds of the zone was seen of it. For `kept`.
use Rattle.std.proofs.Common.{◌≡◌, ◌<◌, ◌∙◌, length, Some, refl, ap, subst, arith}
use Rattle.std.specs.Prelude.{slice_get}
use Rattle.std.proofs.lemmas.Option.{slice_get_read}
use Rattle.zone_spec.specs.declared.Zone.{Zone}
use Rattle.layout_search.specs.Looks.{IsLook}
use Rattle.layout_search.proofs.sights.kept.Goals as goal

pub returns-in-Some : goal.returns-in-Some
returns-in-Some c = λ image seen.
    let slots = c.args.sights.now.slots.items in
    let inside : c.slot_of.result < length slots = omega (arith, c.slot_of.ensures, c.len-slots.ensures) in
    let held : slice_get slots c.slot_of.result ≡ Some (Some c.in-Some.sight) =
    slice_get_read slots (length slots) c.slot_of.result c.index.result.now refl inside c.index.ensures
    ∙ ap Some c.in-Some.is in
    subst (λ (z : Zone). IsLook image z c.in-Some.sight.look) (c.is_of.ensures c.if-is_of.true)
    (seen.all c.slot_of.result c.in-Some.sight held)
