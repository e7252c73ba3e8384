-- The deaths that other dumps tell of
use Rattle.std.specs.Prelude.{List, [], ◌∷◌, ◌++◌, map, flat_map, codes}
use Rattle.death_spec.specs.Lines.{part}
use Rattle.report_spec.specs.Packed.{readable}
use Rattle.report_spec.specs.Deaths.{DeathTold}
use Rattle.region_report.specs.declared.deaths.Telling.{Telling}
use Rattle.region_report.specs.Tellers.{as_told}
use Rattle.report_text.specs.Pieces.{Part, Words, Bytes, Named}
use Rattle.report_text.specs.Tables.{time_parts}

-- a dump's time and name, and its telling line
abbrev pub earlier_row : DeathTold → List Part
earlier_row t =
    Words (codes "  ") ∷ time_parts t.teller.time ++ Words (codes "  ") ∷ Named t.teller.name ∷ Words (codes "  ")
    ∷ Bytes (part (readable t.teller) t.death.telling.text t.death.telling.end) ∷ Words (codes "\n") ∷ []

abbrev pub earlier_parts : List DeathTold → List Part
earlier_parts [] = []
earlier_parts (t ∷ ts) = Words (codes "\nearlier deaths\n") ∷ flat_map earlier_row (t ∷ ts)

-- the same, as the code has them
abbrev pub earlier_of : List Telling → List Part
earlier_of [] = []
earlier_of (t ∷ ts) = Words (codes "\nearlier deaths\n") ∷ flat_map earlier_row (map as_told (t ∷ ts))
