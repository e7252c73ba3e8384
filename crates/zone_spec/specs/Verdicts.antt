-- A boot's log against what the zone was told
use Rattle.std.specs.Prelude.{ℕ, if◌then◌else◌, nat_eq, bytes_eq, List, length, Option, Some, None}
use Rattle.std.specs.List.{common_prefix_len}
use Rattle.zone_spec.specs.declared.Verdict.{Verdict}
use Rattle.zone_spec.specs.declared.Verdict.TheVariants.{NothingTold, AsTold, Differs}

-- the verdict on a told list, or none, and a log
abbrev pub verdict_of : Option (List ℕ) → List ℕ → Verdict
verdict_of None log = NothingTold
verdict_of (Some told) log =
    if bytes_eq log told then AsTold
    else Differs (length told) (length log) (common_prefix_len nat_eq told log)
