-- A copy of an image that has some of its bytes
use Rattle.std.specs.Prelude.{◌≡◌, ℕ, ◌+◌, ◌<◌, ◌≤◌, List, slice_index, min, Option, IfSome}
use Rattle.std.specs.List.{AllByRecursion}
use Rattle.psz_spec.specs.declared.Machine.{Machine}
use Rattle.psz_spec.specs.declared.Zone.{Zone}
use Rattle.psz_spec.specs.declared.Span.{Span}
use Rattle.psz_spec.specs.declared.Part.{Part}
use Rattle.psz_spec.specs.States.{zone_bytes}
use Rattle.psz_spec.specs.Parts.{part_of}

-- the bytes from one place to another are the image's
abbrev pub HasRange : List ℕ → ℕ → ℕ → List ℕ → Type 0
HasRange image from to copy = (i : ℕ) → from ≤ i → i < to → slice_index copy i ≡ slice_index image i

-- what was the image's still is
abbrev pub Keeps : List ℕ → List ℕ → List ℕ → Type 0
Keeps image old new = (i : ℕ) → slice_index old i ≡ slice_index image i → slice_index new i ≡ slice_index image i

abbrev pub HasSpan : List ℕ → Span → List ℕ → Type 0
HasSpan image span copy = HasRange image span.at (span.at + span.len) copy

-- the bytes of a span came to what was there
pub record IsFilled (image : List ℕ) (span : Span) (old new : List ℕ) : Type 0 where
  pub keeps : Keeps image old new
  pub has : HasSpan image span new

-- the front of a zone, by which it is listed or not
abbrev pub front_of : Zone → Span
front_of z = record { at = z.at; len = min z.size 52 }

-- the log of a part
pub record HasLog (image copy : List ℕ) (part : Part) : Type 0 where
  pub first : HasSpan image part.log.first copy
  pub second : HasSpan image part.log.second copy

pub record IsLogFilled (image : List ℕ) (part : Option Part) (old new : List ℕ) : Type 0 where
  pub keeps : Keeps image old new
  pub has : IfSome part (HasLog image new)

-- the front of a zone, and its log if it is listed
pub record HasZone (machine : Machine) (image copy : List ℕ) (z : Zone) : Type 0 where
  pub front : HasSpan image (front_of z) copy
  pub log : IfSome (part_of machine z (zone_bytes z image)) (HasLog image copy)

abbrev pub HasZones : Machine → List Zone → List ℕ → List ℕ → Type 0
HasZones machine zones image copy = AllByRecursion (HasZone machine image copy) zones
