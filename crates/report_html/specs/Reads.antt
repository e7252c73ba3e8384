-- How a record read: what was corrected in its zones, and what is bad
use Rattle.std.specs.Prelude.{ℕ, nat_lt, ◌==◌, ◌&&◌, if◌then◌else◌, List, [], ◌∷◌, ◌++◌, codes}
use Rattle.zone_spec.specs.declared.Name.{Name}
use Rattle.zone_spec.specs.Records.{Saved}
use Rattle.pstore_records.specs.Counts.{corrected_in, bad_in}
use Rattle.region_report.specs.Counted.{zones_counted}
use Rattle.report_html.specs.Pieces.{Part, Words, Count}

abbrev pub counted_parts : (words : List ℕ) → ℕ → List Part
counted_parts words n = Words words ∷ Count n ∷ Words (codes "</span>") ∷ []

-- a number of parts or bytes, unless it is 0
abbrev pub number_parts : (words : List ℕ) → ℕ → List Part
number_parts words n = if nat_lt 0 n then counted_parts words n else []

abbrev pub clean_parts : (bad corrected : ℕ) → List Part
clean_parts bad corrected =
    if (bad == 0) && (corrected == 0) then Words (codes "<span class=\"ok\">clean</span>") ∷ [] else []

-- the headers and blocks beyond repair, and the bytes that were corrected; or that there are none
abbrev pub read_parts : List Saved → Name → List Part
read_parts zones name =
    clean_parts (bad_in name (zones_counted name zones)) (corrected_in name (zones_counted name zones))
    ++ number_parts (codes "<span class=\"bad\">bad ") (bad_in name (zones_counted name zones))
    ++ number_parts (codes "<span class=\"fix\">corrected ") (corrected_in name (zones_counted name zones))
