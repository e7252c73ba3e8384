-- The picture of an image: its zones to scale, and a table of them with their blocks
use Rattle.std.specs.Prelude.{ℕ, ◌+◌, ◌-◌, ◌*◌, ◌/◌, min, Bool, true, false, ◌==◌, nat_lt, if◌then◌else◌, List, [], ◌∷◌}
use Rattle.std.specs.Prelude.{◌++◌, length, slice_get, flat_map, codes, Option, Some, None}
use Rattle.std.specs.List.{zip}
use Rattle.zone_spec.specs.declared.Kind.{Kind}
use Rattle.zone_spec.specs.declared.Kind.TheVariants.{Dump, Console, Ftrace, Pmsg}
use Rattle.zone_spec.specs.declared.State.{State}
use Rattle.zone_spec.specs.declared.State.TheVariants.{Unsigned, Empty, Invalid, Found}
use Rattle.zone_spec.specs.declared.Zone.{Zone}
use Rattle.zone_spec.specs.Reading.{ZoneReading}
use Rattle.zone_spec.specs.Records.{Saved}
use Rattle.zone_spec.specs.declared.PartState.{PartState}
use Rattle.zone_spec.specs.declared.PartState.TheVariants.{Read, Bad}
use Rattle.zone_spec.specs.PartStates.{PartStates}
use Rattle.region_report.specs.Reports.{ReportHeld}
use Rattle.report_html.specs.declared.words.TheConstants.{FRAME, MAP}
use Rattle.report_html.specs.Pieces.{Part, Words, Count}

-- ---- zones

abbrev pub kind_words : Kind → List ℕ
kind_words Dump = codes "dump "
kind_words Console = codes "console "
kind_words Ftrace = codes "ftrace "
kind_words Pmsg = codes "pmsg "

abbrev pub zone_name : Zone → List Part
zone_name z = Words (kind_words z.name.kind) ∷ Count z.name.index ∷ []

abbrev pub state_words : State → List ℕ
state_words Unsigned = codes "unsigned"
state_words Empty = codes "empty"
state_words Invalid = codes "invalid"
state_words Found = codes "found"

abbrev pub read_words : Option ZoneReading → List ℕ
read_words None = codes "not read"
read_words (Some r) = state_words r.state

-- ---- the map of the region

-- a share in thousandths of a percent, rounded down; none of nothing
abbrev pub share : (part whole : ℕ) → ℕ
share part whole = if whole == 0 then 0 else part * 100_000 / whole

abbrev pub label_opening : (size whole : ℕ) → List ℕ
label_opening size whole =
    if nat_lt (8 * size) whole then codes "<g class=\"slim\"><text x=\"3\" y=\"13\">"
    else codes "<g><text x=\"3\" y=\"13\">"

abbrev pub fitting_parts : Zone → ℕ → List Part
fitting_parts z whole =
    Words (label_opening z.size whole) ∷ [] ++ zone_name z
    ++ Words (codes "</text><text x=\"3\" y=\"27\">") ∷ Count z.size ∷ Words (codes "</text></g>") ∷ []

-- a zone's name and size, where they fit: a sixteenth of the region; an eighth on a narrow page
abbrev pub label_parts : Zone → ℕ → List Part
label_parts z whole = if nat_lt (16 * z.size) whole then [] else fitting_parts z whole

abbrev pub place_parts : ℕ → Zone → List Part
place_parts whole z =
    Words (codes "<svg x=\"") ∷ Count (share z.at whole) ∷ Words (codes "e-3%\" width=\"") ∷ Count (share z.size whole)
    ∷ Words (codes "e-3%\"><title>") ∷ []

-- ---- the strip of a zone

-- the class of parts by how they read. None where they are not in use
abbrev pub class_words : Option PartState → List ℕ
class_words None = codes "off"
class_words (Some (Read n)) = if n == 0 then codes "ok" else codes "fix"
class_words (Some Bad) = codes "bad"

-- of 24 rows, those above them: the worse, the fewer, and one fewer for each byte that was corrected, up to nine
abbrev pub rows_above : Option PartState → ℕ
rows_above None = 20
rows_above (Some (Read n)) = if n == 0 then 12 else 10 - min n 9
rows_above (Some Bad) = 0

abbrev pub part_words : Option PartState → List ℕ
part_words None = codes "not in use"
part_words (Some (Read n)) = if n == 0 then codes "clean" else codes "corrected"
part_words (Some Bad) = codes "bad"

-- where a rectangle begins: its class, its rows, the byte of the zone it begins at and its width in bytes
abbrev pub opening : Option PartState → (at width : ℕ) → List Part
opening state at width =
    Words (codes "<rect class=\"") ∷ Words (class_words state) ∷ Words (codes "\" y=\"") ∷ Count (rows_above state)
    ∷ Words (codes "\" height=\"") ∷ Count (24 - rows_above state) ∷ Words (codes "\" x=\"") ∷ Count at
    ∷ Words (codes "\" width=\"") ∷ Count width ∷ Words (codes "\"><title>") ∷ []

abbrev pub closing : List Part
closing = Words (codes "</title></rect>\n") ∷ []

abbrev pub count_parts : ℕ → List Part
count_parts n = if n == 0 then [] else Words (codes ", bytes corrected in each: ") ∷ Count n ∷ []

abbrev pub corrected_parts : Option PartState → List Part
corrected_parts None = []
corrected_parts (Some (Read n)) = count_parts n
corrected_parts (Some Bad) = []

-- the 12 bytes of the header
abbrev pub header_parts : Option PartState → List Part
header_parts state =
    opening state 0 12 ++ Words (codes "header, ") ∷ Words (part_words state) ∷ []
    ++ corrected_parts state ++ closing

-- where a block's data begin among those of its zone
abbrev pub block_at : Zone → ℕ → ℕ
block_at z b = min (z.block * b) z.cap

-- the rectangle of a zone's blocks from one up to another: their data begin after the 12 bytes of its header
abbrev pub blocks_opening : Zone → (from to : ℕ) → Option PartState → List Part
blocks_opening z from to state = opening state (block_at z from + 12) (block_at z to - block_at z from)

-- the numbers of blocks from one up to another: `3`, or `3 to 7`
abbrev pub numbers_parts : (from to : ℕ) → List Part
numbers_parts from to =
    if to - from == 1 then Count from ∷ [] else Count from ∷ Words (codes " to ") ∷ Count (to - 1) ∷ []

abbrev pub blocks_word : (from to : ℕ) → List ℕ
blocks_word from to = if to - from == 1 then codes "block " else codes "blocks "

abbrev pub range_parts : (from to : ℕ) (words : List ℕ) → List Part
range_parts from to words =
    Words (blocks_word from to) ∷ [] ++ numbers_parts from to ++ Words (codes ", ") ∷ Words words ∷ []

-- blocks that read alike
abbrev pub blocks_parts : Zone → (from to : ℕ) → Option PartState → List Part
blocks_parts z from to state =
    blocks_opening z from to state ++ range_parts from to (part_words state)
    ++ corrected_parts state ++ closing

-- neighbouring blocks that read alike
pub record Run : Type 0 where
  pub from : ℕ
  pub to : ℕ
  pub state : PartState

abbrev pub is_alike : PartState → PartState → Bool
is_alike (Read m) (Read n) = m == n
is_alike (Read m) Bad = false
is_alike Bad (Read n) = false
is_alike Bad Bad = true

-- a block before these runs: it joins the first of them if it reads alike
unfoldable pub with_block : ℕ → PartState → List Run → List Run
with_block b state [] = record { from = b; to = b + 1; state = state } ∷ []
with_block b state (r ∷ rs) =
    if is_alike state r.state then record { from = b; to = r.to; state = state } ∷ rs
    else record { from = b; to = b + 1; state = state } ∷ r ∷ rs

-- the runs of the blocks from block b on
unfoldable pub runs : ℕ → List PartState → List Run
runs b [] = []
runs b (state ∷ states) = with_block b state (runs (b + 1) states)

abbrev pub run_parts : Zone → Run → List Part
run_parts z r = blocks_parts z r.from r.to (Some r.state)

-- the blocks of a zone after so many that are in use
abbrev pub unused_parts : Zone → ℕ → List Part
unused_parts z used = if nat_lt used z.blocks then blocks_parts z used z.blocks None else []

abbrev pub outline_parts : (at width : ℕ) → List Part
outline_parts at width =
    Words (codes "<rect class=\"par\" y=\"12\" height=\"12\" x=\"") ∷ Count at ∷ Words (codes "\" width=\"")
    ∷ Count width ∷ Words (codes "\"><title>parity</title></rect>\n") ∷ []

-- the parity, which stands after the data
abbrev pub parity_parts : Zone → List Part
parity_parts z = if nat_lt (12 + z.cap) z.size then outline_parts (12 + z.cap) (z.size - (12 + z.cap)) else []

abbrev pub strip_opening : ℕ → List Part
strip_opening size =
    Words (codes "0 0 ") ∷ Count size ∷ Words (codes " 24\" preserveAspectRatio=\"none\">\n") ∷ []

-- the bytes of a zone from left to right: its header, its blocks and its parity
abbrev pub strip_parts : Zone → PartStates → List Part
strip_parts z p =
    strip_opening z.size ++ header_parts (Some p.header) ++ flat_map (run_parts z) (runs 0 p.blocks) ++ unused_parts z (length p.blocks)
    ++ parity_parts z ++ Words (codes "</svg>") ∷ []

-- ---- a zone in the map

abbrev pub frame_parts : Option ZoneReading → List Part
frame_parts r = Words (codes ": ") ∷ Words (read_words r) ∷ Words FRAME.now ∷ []

-- a zone as wide as its share of the region, with its strip
abbrev pub map_parts : ℕ → Saved × PartStates → List Part
map_parts whole d =
    place_parts whole d.0.0 ++ zone_name d.0.0 ++ frame_parts d.0.1 ++ strip_parts d.0.0 d.1
    ++ label_parts d.0.0 whole ++ Words (codes "</svg>\n") ∷ []

-- ---- the whole

-- where a zone ends
abbrev pub end_of : Option Zone → ℕ
end_of None = 0
end_of (Some z) = z.at + z.size

-- the bytes up to the end of the last zone
abbrev pub width_of : List Zone → ℕ
width_of zones = end_of (slice_get zones (length zones - 1))

abbrev pub region_opening : ℕ → ℕ → List Part
region_opening whole count =
    Words (codes "<h2 id=\"region\">The region: ") ∷ Count whole ∷ Words (codes " bytes, ") ∷ Count count
    ∷ Words MAP.now ∷ []

-- the zones with their readings and their parts
abbrev pub drawn_of : List Zone → ReportHeld → List (Saved × PartStates)
drawn_of zones report = zip (zip zones report.logs.readings) report.parts

abbrev pub map_of : List Zone → ReportHeld → List Part
map_of zones report = flat_map (map_parts (width_of zones)) (drawn_of zones report)
