-- The sizes of which a region is tried, and which of two comes first
use Rattle.std.specs.Prelude.{ℕ, ◌/◌, ◌==◌, Bool, ◌&&◌, ◌||◌, nat_le, nat_lt, List, [], ◌∷◌, length, Option, Some, None}
use Rattle.std.specs.List.{filter, list_any}
use Rattle.layout_spec.specs.declared.Known.{Known}
use Rattle.layout_spec.specs.declared.Tally.{Tally}
use Rattle.memory_spec.specs.Pages.{marked}
use Rattle.memory_spec.specs.Rings.{ends}

-- the powers of two from a page to 16 MiB
unfoldable pub powers : List ℕ
powers =
    4096 ∷ 8192 ∷ 16384 ∷ 32768 ∷ 65536 ∷ 131072 ∷ 262144 ∷ 524288 ∷ 1048576 ∷ 2097152 ∷ 4194304 ∷ 8388608 ∷ 16777216
    ∷ []

-- a page in the second half of so many bytes
abbrev pub is_in_half : ℕ → ℕ → Bool
is_in_half size page = nat_le (size / 8192) page && nat_lt page (size / 4096)

-- a header or a ring ends there
abbrev pub ends_in_half : ℕ → ℕ → Bool
ends_in_half size end = nat_lt (size / 2) end && nat_le end size

-- a region reaches into the second half: a header seems to stand at a page there, or a header or its ring ends there.
-- Without that, half of the size shows as many zones
abbrev pub is_reached : List ℕ → List ℕ → ℕ → Bool
is_reached pages found_ends size =
    (size == 4096) || list_any (is_in_half size) pages || list_any (ends_in_half size) found_ends

-- the sizes that are tried, rising: the one that is known, or those that are reached; none has more bytes than there are
abbrev pub sizes_of : Option ℕ → List ℕ → List ℕ
sizes_of (Some size) bytes = filter (λ n. nat_le n (length bytes)) (size ∷ [])
sizes_of None bytes = filter (λ n. nat_le n (length bytes) && is_reached (marked bytes) (ends bytes) n) powers

abbrev pub sizes : Known → List ℕ → List ℕ
sizes known bytes = sizes_of known.mem bytes

-- of two layouts that are taken the first has fewer faults; of as many, fewer logs that are not as their kind writes
-- them, as two regions in a row have where they are read as one; of as many, more zones that fit
abbrev pub comes_first : Tally → Tally → Bool
comes_first t u =
    nat_lt t.faults u.faults
    || ((t.faults == u.faults) && (nat_lt t.odd u.odd || ((t.odd == u.odd) && nat_lt u.fits t.fits)))
