-- What tells, as contracts see it
use Rattle.std.specs.Prelude.{List, map, Option, ℕ}
use Rattle.std.specs.Option.{option_map}
use Rattle.report_spec.specs.Deaths.{DeathTold}
use Rattle.report_spec.specs.Ends.{EndTold}
use Rattle.region_report.specs.declared.deaths.Telling.{Telling}
use Rattle.region_report.specs.declared.ends.End.{End}
use denote.Bor.{Bor}

abbrev pub as_told : Telling → DeathTold
as_told told = record { teller = told.teller.now; death = told.death }

abbrev pub told_in : Option Telling → Option DeathTold
told_in told = option_map as_told told

abbrev pub as_ended : End → EndTold
as_ended end = record { teller = end.teller.now; ended = end.ended }

abbrev pub end_in : Option End → Option EndTold
end_in end = option_map as_ended end

-- rows without their borrows
abbrev pub plain : {X : Type 0} → List (X × Bor (List ℕ)) → List (X × List ℕ)
plain {X} rows = map (λ (row : X × Bor (List ℕ)). (row.0, row.1.now)) rows
