-- What was seen of zones
use Rattle.std.specs.Prelude.{◌≡◌, ℕ, List, Some, slice_get}
use Rattle.layout_spec.specs.Marks.{byte_order_in}
use Rattle.layout_search.specs.Looks.{IsLook}
use Rattle.layout_search.specs.declared.sights.Sight.{Sight}
use Rattle.layout_search.specs.declared.sights.Sights.{Sights}

-- the order of bytes is the one that this image shows, and what is kept of a zone is what is seen of it there
pub record AreSeen (image : List ℕ) (sights : Sights) : Type 0 where
  pub byte_order_is : sights.byte_order ≡ byte_order_in image
  pub all : (i : ℕ) (sight : Sight) → slice_get sights.slots.items i ≡ Some (Some sight)
      → IsLook image sight.zone sight.look
