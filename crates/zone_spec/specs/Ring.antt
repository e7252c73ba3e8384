-- The form that a zone's image has for the list that it was told
use Rattle.std.specs.Prelude.{◌≡◌, ℕ, ◌+◌, ◌*◌, ◌<◌, List, length, take, map, slice_index, Some}
use Rattle.zone_spec.specs.declared.Zone.{Zone}
use Rattle.zone_spec.specs.Numbers.{header_len}
use Rattle.zone_spec.specs.declared.Words.{Words}
use Rattle.zone_spec.specs.declared.Kind.{Kind}
use Rattle.zone_spec.specs.declared.Kind.TheVariants.{Dump}
use Rattle.code_spec.specs.Code.{nearest}
use Rattle.zone_spec.specs.Parts.{Part, Header, Block, part_bytes, part_word, standing_words}
use Rattle.zone_spec.specs.Reading.{log_places, IsRing}

-- a part with no nearest codeword, or whose nearest codeword has just the bytes that stand
abbrev pub ReadsAsStands : Zone → List ℕ → Part → Type 0
ReadsAsStands z image part =
    (c : List ℕ) → nearest z.parity (part_word z image part) ≡ Some c
    → take (length (part_bytes z image part)) c ≡ part_bytes z image part

-- a ring that can be appended to: start is below cap, and equal to size until the ring is full
abbrev pub IsOpen : Words → ℕ → Type 0
IsOpen w cap = (w.start < cap) × (w.size < cap → w.start ≡ w.size)

-- every ring is but a dump zone's
abbrev pub IsOpenUnlessDump : Kind → Words → ℕ → Type 0
IsOpenUnlessDump Dump w cap = Unit {0}
IsOpenUnlessDump other w cap = IsOpen w cap

-- the standing words are a ring with the zone's signature, the log places have the told bytes, and
-- header and blocks read as they stand
pub record IsRingForm (z : Zone) (image told : List ℕ) : Type 0 where
  pub ring : IsRing (standing_words z image) z.cap
  pub signed : (standing_words z image).sig ≡ z.sig
  pub told_length : (standing_words z image).size ≡ length told
  pub bytes : map (λ place. slice_index image (header_len + place))
      (log_places (standing_words z image).start (standing_words z image).size) ≡ told
  pub is_open : IsOpenUnlessDump z.name.kind (standing_words z image) z.cap
  pub header : ReadsAsStands z image Header
  pub blocks : (b : ℕ) → z.block * b < (standing_words z image).size → ReadsAsStands z image (Block b)
