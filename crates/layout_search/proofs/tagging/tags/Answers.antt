-- The zones of the layout without a tag lie in the image, so their tags can be read. For `tags`.
use Rattle.std.proofs.Common.{◌≡◌, List, ℕ, Some, sym, subst}
use Rattle.std.specs.Prelude.{slice_get}
use Rattle.zone_spec.specs.declared.Zone.{Zone}
use Rattle.layout_search.specs.Looks.{IsInside}
use Rattle.layout_search.proofs.ZonesInImage.{inside}
use Rattle.layout_search.proofs.tagging.tags.Goals as goal

pub read_tags-requires : goal.read_tags-requires
read_tags-requires c =
    let laid = rw c.in-Some-2.is at c.in_ok-zones.ensures in
    subst (λ (zones : List Zone). (i : ℕ) (z : Zone) → slice_get zones i ≡ Some z → IsInside c.args.image.now z)
    (sym c.deref.ensures.value)
    (inside c.args.image.now c.in-Some-2.zones.items c.args.c.now.mem laid.whole c.requires)
