-- The answers are those of the first `i` zones. For the loop of `all_stay`.
use Rattle.std.proofs.Common.{◌≡◌, map, take}
use Rattle.ramoops_layout.specs.Laid.{zones_of}
use Rattle.zone_spec.specs.Records.{Saved}
use Rattle.prz_read.specs.Saving.{saved}
use Rattle.pstore_records.specs.Moves.{stays}
use Rattle.pstore_records.proofs.fitting.all_stay.Given as goal

abbrev pub invariant-loop-i : goal.invariant-loop-i
invariant-loop-i l = l.all.items ≡ map (λ (s : Saved). stays (zones_of l.layout) (saved l.logs) s s.1)
    (take l.i (saved l.logs))
