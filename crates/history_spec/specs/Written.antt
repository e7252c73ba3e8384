-- What was written to the i-th zone since its erasure: by the operations of a session, the flights of its states, and
-- how many stores its boots made. Nothing is known, None, as long as no boot has finished the zone
use Rattle.std.specs.Prelude.{ℕ, ◌-◌, Bool, false, ◌==◌, nat_le, if◌then◌else◌, List, [], ◌∷◌, ◌++◌, length, take}
use Rattle.std.specs.Prelude.{slice_get, Option, Some, None, Result, Ok, Err}
use Rattle.std.specs.Option.{option_map, option_map_or, option_and_then}
use Rattle.zone_spec.specs.declared.Zone.{Zone}
use Rattle.zone_spec.specs.Told.{Call, Append, Erase, Dump}
use Rattle.zone_spec.specs.Boot.{told_by_boot}
use Rattle.zone_spec.specs.Notices.{is_in}
use Rattle.machine_spec.specs.Zones.{zone_bytes}
use Rattle.machine_spec.specs.States.{Flight, OffState, LiveZone, LiveState, Session, Off, Live}
use Rattle.machine_spec.specs.Off.{fresh}
use Rattle.machine_spec.specs.LiveZones.{Target}
use Rattle.machine_spec.specs.LiveCalls.{call_of, asked_zone}
use Rattle.machine_spec.specs.BootPart.{boot_count, is_finished, left_at}
use Rattle.machine_spec.specs.Operations.{Operation, Boot, BootPart, Make, EraseRecord, Cause, operated, left_by}

-- after a finished call: an append adds its payload; an erasure begins anew; a dump begins anew with its time line and
-- the front of its body
abbrev pub with_call : ℕ → Call → List ℕ → List ℕ
with_call cap (Append payload) written = written ++ payload
with_call cap Erase written = []
with_call cap (Dump line body) written = line ++ take (cap - length line) body

-- a call is finished where its flight stood before an operation, and no flight stands after it
abbrev pub with_flight : ℕ → Option Flight → Option Flight → Option (List ℕ) → Option (List ℕ)
with_flight cap (Some flight) None written = option_map (with_call cap flight.call) written
with_flight cap before after written = written

module _ (layout : List Zone) (i : ℕ) (z : Zone) where
  -- after an operation and its result: what is refused writes nothing; a boot that finishes the zone begins anew with
  -- the log that it reads, or with nothing where it erases the zone; a call that is made and the erasure of a record are
  -- finished at once, other calls as flights end
  abbrev pub written_by : Session → Operation → Result Session Cause → Option (List ℕ) → Option (List ℕ)
  written_by session operation (Err cause) w = w
  written_by (Off off) Boot (Ok next) w = Some (told_by_boot z (zone_bytes z off.image))
  written_by (Off off) (BootPart limit) (Ok next) w = if is_finished z (zone_bytes z off.image)
      (nat_le (boot_count layout off.image) limit) (left_at layout off.image limit i)
      then Some (told_by_boot z (zone_bytes z off.image)) else w
  written_by (Live live) (Make ask) (Ok next) w = if option_map_or (λ (t : Target). t.place == i)
      (asked_zone layout live ask) false then option_map (with_call z.cap (call_of ask)) w else w
  written_by (Live live) (EraseRecord name) (Ok next) w = if is_in name z then Some [] else w
  written_by (Live live) operation (Ok (Live next)) w =
      let flight = λ (s : LiveState). option_and_then (λ (zone : LiveZone). zone.flight) (slice_get s.zones i) in
      with_flight z.cap (flight live) (flight next) w
  written_by session operation (Ok next) w = w

  -- after operations in order
  unfoldable pub written : Option (List ℕ) → Session → List Operation → Option (List ℕ)
  written w s [] = w
  written w s (o ∷ os) = let r = operated layout s o in written (written_by s o r w) (left_by s r) os

-- by a whole session, on an image of which nothing is known
abbrev pub written_in : List Zone → List ℕ → List Operation → ℕ → Zone → Option (List ℕ)
written_in layout image operations i z = written layout i z None (Off (fresh layout image)) operations
