-- The list of records, in which many dumps stand in groups
use Rattle.std.specs.Prelude.{ℕ, ◌-◌, ◌%◌, ◌==◌, ◌&&◌, Bool, true, false, if◌then◌else◌, List, [], ◌∷◌, ◌++◌}
use Rattle.std.specs.Prelude.{slice_get, codes, Option, Some, None}
use Rattle.std.specs.Option.{is_some}
use Rattle.zone_spec.specs.declared.Name.{Name}
use Rattle.report_spec.specs.Packed.{RecordShown}
use Rattle.report_html.specs.Pieces.{Part, Words, Count}
use Rattle.report_html.specs.Listed.{dump_number}

abbrev pub is_dump : Name → Bool
is_dump name = is_some (dump_number name)

abbrev pub is_dump_at : Option RecordShown → Bool
is_dump_at None = false
is_dump_at (Some r) = is_dump r.name

-- whether there are more than 32 dumps, which are the first records: else there are no groups
abbrev pub are_grouped : List RecordShown → Bool
are_grouped records = is_dump_at (slice_get records 32)

-- the group that the record at a place stands in, by how many dumps are newer: 32 dumps make a group
abbrev pub group_in : Bool → ℕ → Name → Option ℕ
group_in grouped place name = if grouped && is_dump name then Some (place - place % 32) else None

abbrev pub is_same : Option ℕ → Option ℕ → Bool
is_same None None = true
is_same None (Some h) = false
is_same (Some g) None = false
is_same (Some g) (Some h) = g == h

abbrev pub end_parts : Option ℕ → List Part
end_parts None = []
end_parts (Some g) = Words (codes "</details>\n") ∷ []

-- a group is folded, unless the newest dump is unfolded and stands in it
abbrev pub newest_words : Bool → List ℕ
newest_words true = codes "<details class=\"group\" open>\n<summary><b>Newest dumps</b></summary>\n"
newest_words false = codes "<details class=\"group\">\n<summary><b>Newest dumps</b></summary>\n"

abbrev pub older_parts : ℕ → List Part
older_parts newer =
    Words (codes "<details class=\"group\">\n<summary><b>Dumps after the newest ") ∷ Count newer
    ∷ Words (codes "</b></summary>\n") ∷ []

abbrev pub begin_parts : Bool → Option ℕ → List Part
begin_parts is_open None = []
begin_parts is_open (Some g) = if g == 0 then Words (newest_words is_open) ∷ [] else older_parts g

-- what stands between a record of one group and one of another, or of none
abbrev pub edge_parts : Bool → (before after : Option ℕ) → List Part
edge_parts is_open before after =
    if is_same before after then [] else end_parts before ++ begin_parts is_open after
