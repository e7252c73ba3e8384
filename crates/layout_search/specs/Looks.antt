-- What is seen of a zone
use Rattle.std.specs.Prelude.{◌≡◌, ℕ, ◌+◌, ◌≤◌, true, false, List, Option, MatchOption, length}
use Rattle.zone_spec.specs.declared.Zone.{Zone}
use Rattle.zone_spec.specs.Zones.{IsValidZone}
use Rattle.layout_spec.specs.Marks.{is_mark, fits, has_log, is_odd, is_readable, header_of, zone_words}
use Rattle.layout_spec.specs.Order.{corrected_in}
use Rattle.layout_spec.specs.Family.{is_tagged, tag_read}
use Rattle.layout_search.specs.declared.looking.Look.{Look}
use Rattle.layout_search.specs.declared.looking.Header.{Header}

-- a valid zone of the image
pub record IsInside (image : List ℕ) (z : Zone) : Type 0 where
  pub valid : IsValidZone z
  pub within : z.at + z.size ≤ length image

pub record IsHeader (image : List ℕ) (z : Zone) (h : Header) : Type 0 where
  pub readable : is_readable image z ≡ true
  pub words : h.words ≡ zone_words image z
  pub corrected : h.corrected ≡ (header_of image z).corrected

pub record IsLook (image : List ℕ) (z : Zone) (l : Look) : Type 0 where
  pub fits_is : l.fits ≡ fits image z
  pub found : l.found ≡ has_log image z
  pub odd : l.odd ≡ is_odd image z
  pub corrected : l.corrected ≡ corrected_in image z
  pub marked : l.marked ≡ is_mark image z.at

-- the tag of a tagged zone, or None
abbrev pub IsTagOf : List ℕ → Zone → Option ℕ → Type 0
IsTagOf image z found =
    MatchOption found (is_tagged image z ≡ false) (λ tag. (is_tagged image z ≡ true) × (tag ≡ tag_read image z))
