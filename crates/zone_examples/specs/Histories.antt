-- Worked histories: what was written to a zone after each front of some operations
use Rattle.std.specs.Prelude.{◌≡◌, ℕ, ◌+◌, false, List, [], ◌∷◌, map, take, length, replicate, codes, Option, Some}
use Rattle.std.specs.Prelude.{None}
use Rattle.std.specs.List.{range_with_len}
use Rattle.zone_spec.specs.declared.Zone.{Zone}
use Rattle.zone_spec.specs.declared.Name.TheVariants.{Dump as DumpName}
use Rattle.machine_spec.specs.LiveCalls.{Append, Erase, Dump}
use Rattle.machine_spec.specs.Operations.{Operation, Boot, BootPart, Make, Begin, Step, Finish, EraseRecord, Stop, Flip}
use Rattle.zone_examples.specs.Zones.{console, dump, small_zone, small_console, four_small_zones}
use Rattle.zone_examples.specs.Scenes.{abc, def}
use Rattle.history_spec.specs.Written.{written_in}

-- after none of the operations, the first, the first two and so on
abbrev pub history : List Zone → List ℕ → ℕ → Zone → List Operation → List (Option (List ℕ))
history layout image i z os = map (λ k. written_in layout image (take k os) i z) (range_with_len 0 (length os + 1))

-- an append that is made, one that is begun, stepped and finished, one that a stop cuts; the boot erases the console
abbrev pub AppendsWritten : Type 0
AppendsWritten = history small_console (replicate 256 0) 0 (small_zone console 0)
    (Boot ∷ Make (Append console abc) ∷ Begin (Append console def) ∷ Step console 1 ∷ Finish console
    ∷ Begin (Append console abc) ∷ Stop ∷ Boot ∷ [])
    ≡ None ∷ Some [] ∷ Some (codes "abc") ∷ Some (codes "abc") ∷ Some (codes "abc") ∷ Some (codes "abcdef")
    ∷ Some (codes "abcdef") ∷ Some (codes "abcdef") ∷ Some [] ∷ []

-- a dump, kept over a boot, and erased; the second erasure is refused
abbrev pub DumpWritten : Type 0
DumpWritten = history four_small_zones (replicate 1024 0) 0 (small_zone (dump 0) 0)
    (Boot ∷ Make (Dump (record { secs = 5; micros = 6 }) false (codes "x")) ∷ Stop ∷ Boot
    ∷ EraseRecord (DumpName 0 false) ∷ EraseRecord (DumpName 0 false) ∷ [])
    ≡ None ∷ Some [] ∷ Some (codes "====5.000006-D\nx") ∷ Some (codes "====5.000006-D\nx")
    ∷ Some (codes "====5.000006-D\nx") ∷ Some [] ∷ Some [] ∷ []

-- a boot that is cut within the console's erasure leaves what was written; one that finishes it does not
abbrev pub CutBootsWritten : Type 0
CutBootsWritten = history small_console (replicate 256 0) 0 (small_zone console 0)
    (Boot ∷ Make (Append console abc) ∷ Stop ∷ BootPart 1 ∷ BootPart 9 ∷ [])
    ≡ None ∷ Some [] ∷ Some (codes "abc") ∷ Some (codes "abc") ∷ Some (codes "abc") ∷ Some [] ∷ []

-- a dump with the time 5.000006
abbrev pub dump_of : List ℕ → Operation
dump_of body = Make (Dump (record { secs = 5; micros = 6 }) false body)

-- calls in other zones write nothing here; the third dump comes round to this zone and begins anew; an erasure
abbrev pub OtherZonesWritten : Type 0
OtherZonesWritten = history four_small_zones (replicate 1024 0) 0 (small_zone (dump 0) 0)
    (Boot ∷ dump_of (codes "x") ∷ Make (Append console abc) ∷ dump_of (codes "z") ∷ dump_of (codes "y")
    ∷ Make (Erase (dump 0)) ∷ [])
    ≡ None ∷ Some [] ∷ Some (codes "====5.000006-D\nx") ∷ Some (codes "====5.000006-D\nx")
    ∷ Some (codes "====5.000006-D\nx") ∷ Some (codes "====5.000006-D\ny") ∷ Some [] ∷ []

-- a flip writes nothing; a boot without a store that has not come to the zone leaves what was written, and one that
-- finishes the zone keeps the log that it reads
abbrev pub FlippedLogKept : Type 0
FlippedLogKept = history four_small_zones (replicate 1024 0) 0 (small_zone (dump 0) 0)
    (Boot ∷ dump_of (codes "x") ∷ Make (Append console abc) ∷ Stop ∷ Flip 27 1 ∷ BootPart 0 ∷ BootPart 9 ∷ [])
    ≡ None ∷ Some [] ∷ Some (codes "====5.000006-D\nx") ∷ Some (codes "====5.000006-D\nx")
    ∷ Some (codes "====5.000006-D\nx") ∷ Some (codes "====5.000006-D\nx") ∷ Some (codes "====5.000006-D\nx")
    ∷ Some (codes "====5.000006-D\ny") ∷ []
