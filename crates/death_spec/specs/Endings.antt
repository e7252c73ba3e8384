-- How a log ends that tells of no death
use Rattle.std.specs.Prelude.{ℕ, nat_eq, nat_lt, if◌then◌else◌, List, [], ◌∷◌, map, length, Option, Some, None}
use Rattle.std.specs.List.{starts_with}
use Rattle.std.specs.Option.{option_map, option_or}
use Rattle.death_spec.specs.declared.Line.{Line}
use Rattle.death_spec.specs.declared.Ended.{Ended}
use Rattle.death_spec.specs.declared.Ending.{Ending}
use Rattle.death_spec.specs.declared.Ending.TheVariants.{BrokenOff}
use Rattle.death_spec.specs.declared.ends.TheConstants.{ENDS}
use Rattle.death_spec.specs.Lines.{lines_from, said}
use Rattle.death_spec.specs.Telling.{telling_line}

-- the rows of `ENDS`
abbrev pub end_rows : List (Ending × List ℕ)
end_rows = map (λ (row : Ending × record { now : List ℕ }). (row.0, row.1.now)) ENDS.now

-- the ending of the first row whose words a text begins with. If none fits, the log breaks off
unfoldable pub ending_in : List (Ending × List ℕ) → List ℕ → Ending
ending_in [] text = BrokenOff
ending_in (row ∷ rows) text = if starts_with nat_eq text row.1 then row.0 else ending_in rows text

-- the last line in which the kernel says something
unfoldable pub last_said : List ℕ → List Line → Option Line
last_said text [] = None
last_said text (line ∷ lines) =
    option_or (last_said text lines) (if nat_lt 0 (length (said text line)) then Some line else None)

abbrev pub ended_at : List ℕ → Line → Ended
ended_at text line = record { ending = ending_in end_rows (said text line); line = line }

abbrev pub ended_unless : List ℕ → Option Line → Option Ended
ended_unless text None = option_map (ended_at text) (last_said text (lines_from text 0))
ended_unless text (Some telling) = None

-- how a text ends, if no line of it tells of a death
unfoldable pub ending_of : List ℕ → Option Ended
ending_of text = ended_unless text (telling_line text)
