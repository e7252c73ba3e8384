-- What a zone was told, and what the next boot reads of it, by what was written to it
use Rattle.std.specs.Prelude.{◌≡◌, ℕ, ◌<◌, ◌≤◌, false, nat_le, List, [], ◌∷◌, length, slice_get, Option, Some}
use Rattle.std.specs.Option.{option_map}
use Rattle.zone_spec.specs.declared.Zone.{Zone}
use Rattle.zone_spec.specs.Reading.{zone_reading}
use Rattle.zone_spec.specs.Told.{last_items}
use Rattle.zone_spec.specs.Boot.{boot_fixes}
use Rattle.zone_spec.specs.Layouts.{IsLayout}
use Rattle.machine_spec.specs.Zones.{zone_bytes}
use Rattle.machine_spec.specs.States.{OffZone, OffState, LiveZone, LiveState, Session, Off, Live}
use Rattle.machine_spec.specs.Stop.{cut_of, stopped}
use Rattle.machine_spec.specs.BootPart.{boot_count, is_finished, left_at}
use Rattle.machine_spec.specs.Operations.{Operation, Flip, Boot, BootPart, Stop, operated, left_by, session_after}
use Rattle.machine_spec.specs.Sound.{IsReached}
use Rattle.history_spec.specs.Written.{written_in}
use Rattle.history_laws.specs.Headline.{ReadsWritten}

-- the i-th zone of a state was told the last bytes written, as many as it holds
abbrev pub TellsWritten : ℕ → Zone → Option (List ℕ) → Session → Type 0
TellsWritten i z w (Off off) = (zone : OffZone) → slice_get off.zones i ≡ Some zone
    → zone.told ≡ option_map (last_items z.cap) w
TellsWritten i z w (Live live) = (zone : LiveZone) → slice_get live.zones i ≡ Some zone
    → Some zone.told ≡ option_map (last_items z.cap) w

-- so was each zone of every state that a session reaches; nothing is told exactly where nothing is known
abbrev pub ToldIsWritten : Type 0
ToldIsWritten = (layout : List Zone) (mem : ℕ) (session : Session) (i : ℕ) (z : Zone) → IsLayout layout mem
    → (r : IsReached layout mem session) → slice_get layout i ≡ Some z
    → TellsWritten i z (written_in layout r.image r.operations i z) session

-- what leaves the i-th zone to its stop while the machine is off: a flip, and a boot that is cut before it begins to
-- erase the zone and before it finishes it. It may have made corrections
abbrev pub LeavesZone : List Zone → ℕ → Zone → OffState → Operation → Type 0
LeavesZone layout i z off (Flip place mask) = mask < 256
LeavesZone layout i z off (BootPart limit) =
    let now = zone_bytes z off.image in let made = left_at layout off.image limit i in
    (is_finished z now (nat_le (boot_count layout off.image) limit) made ≡ false) × (made ≤ length (boot_fixes z now))
LeavesZone layout i z off other = ⊥

-- so do all operations of a list, each in the state that those before it leave
unfoldable pub AllLeaveZone : List Zone → ℕ → Zone → Session → List Operation → Type 0
AllLeaveZone layout i z session [] = Unit {0}
AllLeaveZone layout i z (Off off) (o ∷ os) =
    LeavesZone layout i z off o × AllLeaveZone layout i z (left_by (Off off) (operated layout (Off off) o)) os
AllLeaveZone layout i z (Live live) (o ∷ os) = ⊥

-- The headline without told lists, cuts and stops. A session leaves the machine live; then come a stop, flips and boots
-- that are cut before they come to the zone's erasure or its end, and a boot. Its reading of the zone is by what was
-- written, by what stood in the zone when the machine stopped, and by the flight that the zone then was in
abbrev pub NextBootReadsWritten : Type 0
NextBootReadsWritten = (layout : List Zone) (mem : ℕ) (live next : LiveState) (damaged : OffState)
    (between : List Operation) (i : ℕ) (z : Zone) (zone : LiveZone) (bytes : List ℕ) → IsLayout layout mem
    → (r : IsReached layout mem (Live live)) → slice_get layout i ≡ Some z → slice_get live.zones i ≡ Some zone
    → written_in layout r.image r.operations i z ≡ Some bytes
    → AllLeaveZone layout i z (Off (stopped layout live)) between
    → session_after layout (Live live) (Stop ∷ between) ≡ Off damaged
    → session_after layout (Off damaged) (Boot ∷ []) ≡ Live next
    → let now = zone_bytes z damaged.image in
    (slice_get next.logs i ≡ Some (Some (zone_reading z now)))
    × ReadsWritten z (option_map (cut_of z) zone.flight) zone.image now bytes
