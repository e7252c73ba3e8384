-- The headers and blocks of an image that are not clean, in a table
use Rattle.std.specs.Prelude.{ℕ, ◌+◌, ◌-◌, Bool, false, ◌==◌, nat_lt, if◌then◌else◌, List, [], ◌∷◌, ◌++◌, length}
use Rattle.std.specs.Prelude.{flat_map, codes}
use Rattle.std.specs.List.{zip}
use Rattle.zone_spec.specs.declared.Zone.{Zone}
use Rattle.zone_spec.specs.declared.PartState.{PartState}
use Rattle.zone_spec.specs.declared.PartState.TheVariants.{Read, Bad}
use Rattle.zone_spec.specs.PartStates.{PartStates}
use Rattle.report_html.specs.declared.spots.Stretch.{Stretch}
use Rattle.report_html.specs.declared.spots.Stretch.TheVariants.{Header, Blocks}
use Rattle.report_html.specs.declared.spots.Spot.{Spot}
use Rattle.report_html.specs.declared.words.TheConstants.{CELL, SPOTS, CLEAN}
use Rattle.report_html.specs.Pieces.{Part, Words, Count}
use Rattle.report_html.specs.Pictures.{Run, runs, zone_name, block_at, numbers_parts}

-- ---- what is not clean

abbrev pub is_clean : PartState → Bool
is_clean (Read n) = n == 0
is_clean Bad = false

-- this spot, unless it is clean
abbrev pub unclean : Spot → List Spot
unclean s = if is_clean s.state then [] else s ∷ []

abbrev pub header_spots : Zone → PartState → List Spot
header_spots z state = unclean (record { zone = z; stretch = Header; state = state })

-- neighbouring blocks that read alike
abbrev pub run_spots : Zone → Run → List Spot
run_spots z r = unclean (record { zone = z; stretch = Blocks r.from r.to; state = r.state })

abbrev pub zone_spots : Zone × PartStates → List Spot
zone_spots d = header_spots d.0 d.1.header ++ flat_map (run_spots d.0) (runs 0 d.1.blocks)

-- of all zones, in their order
abbrev pub spots_of : List Zone → List PartStates → List Spot
spots_of zones states = flat_map zone_spots (zip zones states)

-- ---- the table

abbrev pub stretch_parts : Stretch → List Part
stretch_parts Header = Words (codes "header") ∷ []
stretch_parts (Blocks from to) = numbers_parts from to

-- where it begins in the region. The data of blocks stand after the 12 bytes of the header
abbrev pub place_of : Zone → Stretch → ℕ
place_of z Header = z.at
place_of z (Blocks from to) = z.at + 12 + block_at z from

abbrev pub size_of : Zone → Stretch → ℕ
size_of z Header = 12
size_of z (Blocks from to) = block_at z to - block_at z from

abbrev pub each_words : Stretch → List ℕ
each_words Header = []
each_words (Blocks from to) = if to - from == 1 then [] else codes " in each"

-- the bytes that were corrected, in each block if there are several
abbrev pub verdict_parts : Stretch → PartState → List Part
verdict_parts stretch (Read n) =
    Words (codes "<span class=\"fix\">corrected ") ∷ Count n ∷ Words (each_words stretch) ∷ Words (codes "</span>") ∷ []
verdict_parts stretch Bad = Words (codes "<span class=\"bad\">bad</span>") ∷ []

-- a row: the zone, the header or the blocks, their place and size, and how they read
abbrev pub spot_parts : Spot → List Part
spot_parts s =
    Words (codes "<tr><th scope=\"row\">") ∷ [] ++ zone_name s.zone ++ Words (codes "</th><td class=\"n\">") ∷ []
    ++ stretch_parts s.stretch ++ Words CELL.now ∷ Count (place_of s.zone s.stretch) ∷ Words CELL.now
    ∷ Count (size_of s.zone s.stretch) ∷ Words (codes "</td><td>") ∷ [] ++ verdict_parts s.stretch s.state
    ++ Words (codes "</td></tr>\n") ∷ []

-- up to 32 rows are unfolded
abbrev pub open_words : ℕ → List ℕ
open_words count = if nat_lt 32 count then [] else codes " open"

abbrev pub spots_opening : ℕ → List Part
spots_opening count =
    Words (codes "<details") ∷ Words (open_words count)
    ∷ Words (codes "><summary><b>Headers and blocks that are not clean: ") ∷ Count count ∷ Words SPOTS.now ∷ []

abbrev pub spots_parts : List Spot → List Part
spots_parts [] = Words CLEAN.now ∷ []
spots_parts (spot ∷ spots) =
    spots_opening (length (spot ∷ spots)) ++ flat_map spot_parts (spot ∷ spots)
    ++ Words (codes "</table></div>\n</details>\n") ∷ []
