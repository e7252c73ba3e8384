-- The zones of the layout that is one dump zone lie in the image, so they can be looked at. For
-- `first_fits`.
use Rattle.std.proofs.Common.{◌≡◌, List, ℕ, Some, sym, subst}
use Rattle.std.specs.Prelude.{slice_get}
use Rattle.zone_spec.specs.declared.Zone.{Zone}
use Rattle.layout_search.specs.Looks.{IsInside}
use Rattle.layout_search.proofs.ZonesInImage.{inside}
use Rattle.layout_search.proofs.peeking.first_fits.Goals as goal

pub is_first_or_unlike-requires-clause-inside : goal.is_first_or_unlike-requires-clause-inside
is_first_or_unlike-requires-clause-inside c =
    let laid = rw c.in-Some.is at c.in_ok-zones.ensures in
    subst (λ (zones : List Zone). (i : ℕ) (z : Zone) → slice_get zones i ≡ Some z → IsInside c.args.image.now z)
    (sym c.deref.ensures.value)
    (inside c.args.image.now c.in-Some.zones.items c.args.size laid.whole c.requires.within)
