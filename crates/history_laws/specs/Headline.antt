-- The headline: what the next boot reads is what was written
use Rattle.std.specs.Prelude.{◌≡◌, ℕ, List, length, slice_get, Option, Some, None}
use Rattle.std.specs.List.{AllByRecursion}
use Rattle.zone_spec.specs.declared.Zone.{Zone}
use Rattle.zone_spec.specs.Parts.{AreBytes, words_in}
use Rattle.zone_spec.specs.Reading.{zone_reading}
use Rattle.zone_spec.specs.Told.{Call, last_items}
use Rattle.zone_spec.specs.Damage.{IsLogWithinBounds}
use Rattle.zone_spec.specs.Cut.{Cut, ByCall}
use Rattle.zone_spec.specs.Layouts.{IsLayout}
use Rattle.machine_spec.specs.Zones.{zone_bytes}
use Rattle.machine_spec.specs.States.{OffZone, OffState, Off}
use Rattle.machine_spec.specs.Off.{fresh}
use Rattle.machine_spec.specs.Operations.{Operation, session_after}
use Rattle.machine_spec.specs.Sound.{IsOperation, IsReached}
use Rattle.machine_spec.specs.Headline.{EachOffZone, OldPlacesRead, NoOtherPlaces}
use Rattle.damage_laws.specs.Exact.{ReportsCall}
use Rattle.history_spec.specs.Written.{written}

-- What a boot reads now of a zone that stood so at its stop, with this cut, when these bytes had been written to it. An
-- idle zone whose log is within bounds reads the last of them, as many as it holds, in order. In a zone whose call a
-- stop cut only touched blocks and the header make a difference
pub record ReadsWritten (z : Zone) (cut : Option Cut) (stop now bytes : List ℕ) : Type 0 where
  pub idle : cut ≡ None → IsLogWithinBounds z stop now (length (last_items z.cap bytes))
      → (zone_reading z now).log ≡ last_items z.cap bytes
  pub places : (c : Cut) (call : Call) → cut ≡ Some c → c.by ≡ ByCall call
      → OldPlacesRead z (words_in z.byte_order c.header) call (last_items z.cap bytes) stop now
      × NoOtherPlaces z (words_in z.byte_order c.header) call now

-- However the stores of calls interleave over the zones, stopped after any store, also of a boot, and then damaged: the
-- next boot reads so of each zone what the operations wrote to it since its erasure
abbrev pub Headline : Type 0
Headline = (layout : List Zone) (mem : ℕ) (image : List ℕ) (operations : List Operation) (off : OffState) (i : ℕ)
    (z : Zone) (zone : OffZone) (bytes : List ℕ) → IsLayout layout mem → length image ≡ mem → AreBytes image
    → AllByRecursion IsOperation operations
    → session_after layout (Off (fresh layout image)) operations ≡ Off off
    → written layout i z None (Off (fresh layout image)) operations ≡ Some bytes
    → slice_get layout i ≡ Some z → slice_get off.zones i ≡ Some zone
    → ReadsWritten z zone.cut zone.stop (zone_bytes z off.image) bytes

-- And where a stop cut a call, the boot's report of the zone has the cut, exactly: the call, how many of its stores were
-- made and how many it has, the pair of words that the header reads, and the blocks that the call touches
abbrev pub CutsAreReported : Type 0
CutsAreReported = (layout : List Zone) (mem : ℕ) (off : OffState) → IsLayout layout mem
    → IsReached layout mem (Off off) → EachOffZone layout off (λ z zone now. (cut : Cut) (call : Call)
    → zone.cut ≡ Some cut → cut.by ≡ ByCall call → ReportsCall z zone now cut)
