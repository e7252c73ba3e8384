-- The lines of the zones so far. For the loop of `push_faults`.
use Rattle.std.proofs.Common.{◌≡◌, ◌++◌, take}
use Rattle.std.specs.Prelude.{string_bytes}
use Rattle.storage_spec.specs.Told.{fault_lines}
use Rattle.storage_zones.proofs.telling.push_faults.Given as goal

abbrev pub invariant-loop-zone : goal.invariant-loop-zone
invariant-loop-zone l =
    string_bytes l.text ≡ string_bytes l.initial.text ++ fault_lines l.machine l.image (take l.zone-index l.zones)
