-- What tells whether a header's word is a ring
use Rattle.std.specs.Prelude.{◌≡◌, ℕ, ◌+◌, ◌/◌, ◌<◌, ◌↔◌, List, take, drop, Some}
use Rattle.zone_spec.specs.declared.Zone.{Zone}
use Rattle.zone_spec.specs.Zones.{IsValidZone}
use Rattle.zone_spec.specs.Parts.{words_in}
use Rattle.code_spec.specs.Code.{IsWord, distance, parity_of}
use Rattle.salvage_spec.specs.Rings.{IsRingOf, IsRingBy, ring_in, ring_of}
use Rattle.salvage_spec.specs.declared.FoundRing.{FoundRing}
use Rattle.salvage_laws.specs.Known.{amended, amends, IsRingByKnown}

-- a ring by its word is a ring by the amended word
abbrev pub RingByKnown : Type 0
RingByKnown = (z : Zone) (word c : List ℕ) → IsValidZone z → IsWord (12 + z.parity) word
    → IsRingBy z word c ↔ IsRingByKnown z word c

-- what is corrected of it are the known bytes that differ, and what the amended word differs in
abbrev pub CorrectedByKnown : Type 0
CorrectedByKnown = (z : Zone) (word c : List ℕ) → IsValidZone z → IsWord (12 + z.parity) word
    → IsRingBy z word c → distance word c ≡ amends z word + distance (amended z word) c

-- with more known bytes that differ than half the parity there is no ring
abbrev pub ManyAmends : Type 0
ManyAmends = (z : Zone) (word c : List ℕ) → IsValidZone z → IsWord (12 + z.parity) word
    → z.parity / 2 < amends z word → IsRingBy z word c → ⊥

-- the amended word is a codeword of a ring: its parity is that of its first twelve bytes
pub record IsRingAsAmended (z : Zone) (word c : List ℕ) : Type 0 where
  pub same : c ≡ amended z word
  pub parity : parity_of z.parity (take 12 c) ≡ drop 12 c
  pub words : IsRingOf z (words_in z.byte_order c)

-- with as many as half the parity a ring is the amended word itself
abbrev pub AllAmends : Type 0
AllAmends = (z : Zone) (word c : List ℕ) → IsValidZone z → IsWord (12 + z.parity) word
    → amends z word ≡ z.parity / 2 → IsRingBy z word c ↔ IsRingAsAmended z word c

-- the ring that is found is that of a codeword by which there is one
abbrev pub RingInIs : Type 0
RingInIs = (z : Zone) (at : ℕ) (word : List ℕ) (ring : FoundRing) → (ring_in z at word ≡ Some ring)
    ↔ ((c : List ℕ) × IsRingBy z word c × (ring ≡ ring_of z at word c))
