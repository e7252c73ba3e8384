-- What a header's words make of a codeword
use Rattle.std.specs.Prelude.{ℕ, ◌+◌, if◌then◌else◌, List, Option, Some, None}
use Rattle.code_spec.specs.Code.{distance}
use Rattle.zone_spec.specs.declared.Zone.{Zone}
use Rattle.zone_spec.specs.declared.Words.{Words}
use Rattle.zone_spec.specs.Parts.{words_in}
use Rattle.salvage_spec.specs.Rings.{is_ring_of}
use Rattle.salvage_spec.specs.declared.FoundRing.{FoundRing}

-- the ring of these words, where they are one
abbrev pub ring_if : Zone → ℕ → Words → ℕ → Option FoundRing
ring_if z at w n =
    if is_ring_of z w then Some (record { at = at; zone = z.name; words = w; corrected = n }) else None

-- the ring of a codeword near an amended word, of which so many bytes differed
abbrev pub ring_near : Zone → ℕ → ℕ → List ℕ → Option (List ℕ) → Option FoundRing
ring_near z at amends word None = None
ring_near z at amends word (Some c) = ring_if z at (words_in z.byte_order c) (amends + distance word c)
