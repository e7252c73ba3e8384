-- A shared zone among the zones of an image
use Rattle.std.specs.Prelude.{◌≡◌, ℕ, ◌+◌, List, [], ◌∷◌, ◌++◌, take, drop, slice_get, Some}
use Rattle.zone_spec.specs.declared.Zone.{Zone}
use Rattle.zone_spec.specs.declared.ZoneName.{ZoneName}
use Rattle.zone_spec.specs.Layouts.{zone_place}
use Rattle.machine_spec.specs.Zones.{zone_bytes}
use Rattle.shared_spec.specs.Machine.{SharedZone, CanShare, opened}
use Rattle.shared_spec.specs.Runs.{SharedOperation, shared_after}

-- an image, a zone of it that was opened to be shared, and what was done in that zone since
pub record History : Type 0 where
  pub image : List ℕ
  pub zone : Zone
  pub operations : List SharedOperation

-- what it leaves of the zone
abbrev pub shared_zone : History → SharedZone
shared_zone h = shared_after h.zone (opened h.zone (zone_bytes h.zone h.image)) h.operations

-- with one operation more
abbrev pub and_then : History → SharedOperation → History
and_then h o = record { image = h.image; zone = h.zone; operations = h.operations ++ o ∷ [] }

-- what it leaves of the image: all bytes that are not the zone's stay
abbrev pub image_left : History → List ℕ
image_left h =
    take h.zone.at h.image ++ (shared_zone h).image ++ drop (h.zone.at + h.zone.size) h.image

-- the zone of this name is this one, and can be shared as it stands in the image
pub record CanOpen (zones : List Zone) (name : ZoneName) (image : List ℕ) : Type 0 where
  pub place : ℕ
  pub zone : Zone
  pub named : zone_place zones name ≡ Some place
  pub there : slice_get zones place ≡ Some zone
  pub can : CanShare zone (zone_bytes zone image)
