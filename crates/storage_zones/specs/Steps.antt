-- What one zone gives to the list of records
use Rattle.std.specs.Prelude.{◌≡◌, ℕ, Bool, true, false, if◌then◌else◌, List, [], ◌∷◌, ◌++◌, map, fold}
use Rattle.psz_spec.specs.declared.Kind.{Kind}
use Rattle.psz_spec.specs.declared.Kind.TheVariants.{Ftrace}
use Rattle.psz_spec.specs.declared.Machine.{Machine}
use Rattle.psz_spec.specs.declared.Zone.{Zone}
use Rattle.psz_spec.specs.States.{zone_bytes, log_of}
use Rattle.psz_spec.specs.Records.{Listed, gives, made_by}
use Rattle.zone_spec.specs.Ftrace.{entries, merge}
use Rattle.ftrace_zone.specs.EntryBytes.{entry_bytes}
use Rattle.storage_zones.specs.declared.traces.Traces.{Traces}

-- the record of a zone of a kind, if it was found; none of an ftrace zone
abbrev pub made_in : Machine → List ℕ → Kind → Zone → List Listed
made_in machine image kind z =
    if gives machine image kind z then made_by machine z kind (zone_bytes z image) else []

-- the log of an ftrace zone, if it was found
abbrev pub trace_in : Machine → List ℕ → Zone → List (List ℕ)
trace_in machine image z = if gives machine image Ftrace z then log_of machine (zone_bytes z image) ∷ [] else []

abbrev pub is_any : List (List ℕ) → Bool
is_any [] = false
is_any (log ∷ logs) = true

abbrev pub merge_more : List (List ℕ) → List ℕ → List (List ℕ)
merge_more all log = merge all (entries log)

-- whether there are logs, and their entries merged
pub record AreMerged (logs : List (List ℕ)) (t : Traces) : Type 0 where
  pub any : t.is_any ≡ is_any logs
  pub merged : map entry_bytes t.all ≡ fold merge_more [] logs
