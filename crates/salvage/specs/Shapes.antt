-- What is kept of a shape
use Rattle.std.specs.Prelude.{◌≡◌, ℕ, ◌==◌, Bool, if◌then◌else◌, List, [], ◌∷◌, ◌++◌, slice_get, Option, Some, None}
use Rattle.std.specs.List.{list_any}
use Rattle.zone_spec.specs.declared.Zone.{Zone}
use Rattle.zone_spec.specs.Zones.{IsValidZone}
use Rattle.salvage_spec.specs.Rings.{is_alike}
use Rattle.salvage_laws.specs.Known.{known}
use Rattle.salvage.specs.Sieves.{Sifted, IsSieveOf}

-- the parity of a zone's encoder, none without parity
abbrev pub coder_for : Zone → Option ℕ
coder_for z = if z.parity == 0 then None else Some z.parity

-- the zone with its known bytes, the parity of its encoder, and the sieve of its headers
pub record IsShape (z : Zone) (ks : List (Option ℕ)) (encoder : Option ℕ) (sifted : Option Sifted) : Type 0 where
  pub valid : IsValidZone z
  pub bytes : ks ≡ known z
  pub coder : encoder ≡ coder_for z
  pub sieve : IsSieveOf z sifted

abbrev pub AllValid : List Zone → Type 0
AllValid zones = (i : ℕ) (z : Zone) → slice_get zones i ≡ Some z → IsValidZone z

-- whether a zone's shape is among these
abbrev pub has_shape : List Zone → Zone → Bool
has_shape found x = list_any (λ (s : Zone). is_alike s x) found

-- these and the zone's shape
abbrev pub with_shape : List Zone → Zone → List Zone
with_shape found z = if has_shape found z then found else found ++ z ∷ []
