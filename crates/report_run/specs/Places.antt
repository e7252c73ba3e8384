-- Places and regions in a whole memory, as they are told
use Rattle.std.specs.Prelude.{ℕ, ◌+◌, List, [], ◌∷◌, ◌++◌, codes, decimal, flat_map, Option, Some, None}
use Rattle.report_tool.specs.LayoutWords.{hexadecimal}
use Rattle.found_regions.specs.declared.region.Region.{Region}
use Rattle.found_regions.specs.declared.search.Finding.{Finding}
use Rattle.found_regions.specs.declared.search.Finding.TheVariants.{Shown, Unexplained, Unseen}
use Rattle.found_regions.specs.Search.{capped}

-- a place in the file, or an address if that of the file's first byte is known
abbrev pub place_text : ℕ → ℕ → List ℕ
place_text base place = codes "0x" ++ hexadecimal (capped (base + place))

abbrev pub region_name : List ℕ → ℕ → ℕ → List ℕ
region_name path base place = path ++ codes "@" ++ place_text base place

-- the places of regions, each after a space
abbrev pub place_after : ℕ → Region → List ℕ
place_after base region = codes " " ++ place_text base region.place

abbrev pub places_text : ℕ → List Region → List ℕ
places_text base regions = flat_map (place_after base) regions

-- a larger size that explains as much
abbrev pub larger_line : Option ℕ → List ℕ
larger_line None = []
larger_line (Some size) = codes "a region of " ++ decimal size ++ codes " bytes explains as much" ++ 10 ∷ []

-- what is told of a page where no region is reported
abbrev pub unexplained_line : List ℕ → ℕ → ℕ → List ℕ
unexplained_line path base place =
    codes "oopsreport: " ++ region_name path base place
    ++ codes ": a header seems to stand there, and no layout explains it" ++ 10 ∷ []

unfoldable pub unseen_front : List ℕ → List ℕ
unseen_front path = codes "oopsreport: " ++ path ++ codes ": what stands from "

abbrev pub unseen_line : List ℕ → ℕ → ℕ → List ℕ
unseen_line path base place =
    unseen_front path ++ place_text base place ++ codes " on was not looked at" ++ 10 ∷ []

abbrev pub finding_line : List ℕ → ℕ → Finding → List ℕ
finding_line path base (Shown region) = []
finding_line path base (Unexplained place) = unexplained_line path base place
finding_line path base (Unseen place) = unseen_line path base place

abbrev pub finding_lines : List ℕ → ℕ → List Finding → List ℕ
finding_lines path base findings = flat_map (finding_line path base) findings

-- the regions that were found, in order
abbrev pub region_list : Finding → List Region
region_list (Shown region) = region ∷ []
region_list (Unexplained place) = []
region_list (Unseen place) = []

abbrev pub regions_in : List Finding → List Region
regions_in findings = flat_map region_list findings
