-- What other dumps tell, as the code has it
use Rattle.std.proofs.Common.{◌≡◌, List, [], ◌∷◌, length, map, refl, codes}
use Rattle.std.specs.Prelude.{flat_map}
use Rattle.region_report.specs.declared.deaths.Telling.{Telling}
use Rattle.region_report.specs.Tellers.{as_told}
use Rattle.report_text.specs.Pieces.{Words}
use Rattle.report_text.specs.Earlier.{earlier_row, earlier_parts, earlier_of}

pub earlier-is : (ts : List Telling) → earlier_of ts ≡ earlier_parts (map as_told ts)
earlier-is [] = refl
earlier-is (t ∷ ts) = refl

-- a heading, and then the rows, if there are any
pub filled : (ts : List Telling) → (length ts ≡ 0 → ⊥)
    → earlier_of ts ≡ Words (codes "\nearlier deaths\n") ∷ flat_map earlier_row (map as_told ts)
filled [] h = absurd (h refl)
filled (t ∷ ts) h = refl
