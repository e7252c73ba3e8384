-- What a crash tells the zone of its dump
use Rattle.std.specs.Prelude.{◌≡◌, ℕ, false, List, ◌++◌, Some}
use Rattle.zone_spec.specs.declared.Zone.{Zone}
use Rattle.zone_spec.specs.declared.Time.{Time}
use Rattle.zone_spec.specs.Told.{Dump, told_after}
use Rattle.zone_spec.specs.TimeLines.{line_text}
use Rattle.machine_spec.specs.States.{LiveState}
use Rattle.machine_spec.specs.LiveZones.{Target}
use Rattle.script_spec.specs.Scripts.{Kernel, dump_target, crash_body}

-- a crash's body fits in its zone behind the time line: the zone is told both, and nothing of the body is cut off
abbrev pub CrashesAreToldWhole : Type 0
CrashesAreToldWhole =
    (layout : List Zone) (live : LiveState) (kernel : Kernel) (reason : ℕ) (time : Time) (t : Target) (told : List ℕ)
    → dump_target layout live ≡ Some t
    → told_after t.zone.cap (Dump (line_text time false) (crash_body layout live kernel reason time)) told
    ≡ line_text time false ++ crash_body layout live kernel reason time
