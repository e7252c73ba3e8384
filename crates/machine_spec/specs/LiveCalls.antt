-- Calls in a live store: begun, stepped and finished, or refused
use Rattle.std.specs.Prelude.{ℕ, Bool, false, ◌||◌, if◌then◌else◌, is_some, List, Option, Some, None, Result, Ok, Err}
use Rattle.zone_spec.specs.declared.Zone.{Zone}
use Rattle.zone_spec.specs.declared.ZoneName.{ZoneName}
use Rattle.zone_spec.specs.declared.Time.{Time}
use Rattle.zone_spec.specs.declared.Kind.TheVariants.{Dump as DumpKind}
use Rattle.zone_spec.specs.declared.Refusal.{Refusal}
use Rattle.zone_spec.specs.declared.Refusal.TheVariants.{NoZone, Busy, Idle}
use Rattle.zone_spec.specs.Told.{Call, Append as AppendCall, Erase as EraseCall, Dump as DumpCall}
use Rattle.zone_spec.specs.TimeLines.{line_text}
use Rattle.zone_spec.specs.Records.{is_of}
use Rattle.machine_spec.specs.States.{LiveZone, LiveState}
use Rattle.machine_spec.specs.ZoneCalls.{begun, stepped, finished}
use Rattle.machine_spec.specs.LiveZones.{Target, target, ring_only, flies, changed}

-- what may be asked of a live store
pub data Ask : Type 0 where
  Append : (zone : ZoneName) (payload : List ℕ) → Ask
  Erase : (zone : ZoneName) → Ask
  Dump : (time : Time) (packed : Bool) (body : List ℕ) → Ask

-- the call that it is on its zone; a dump begins with its time line
abbrev pub call_of : Ask → Call
call_of (Append zone payload) = AppendCall payload
call_of (Erase zone) = EraseCall
call_of (Dump time packed body) = DumpCall (line_text time packed) body

-- the name of the zone that it goes to: a dump's is the cursor's
abbrev pub asked_name : LiveState → Ask → ZoneName
asked_name live (Append zone payload) = zone
asked_name live (Erase zone) = zone
asked_name live (Dump time packed body) = record { kind = DumpKind; index = live.cursor }

-- that zone; dump zones take no appends
abbrev pub asked_zone : List Zone → LiveState → Ask → Option Target
asked_zone layout live (Append zone payload) = ring_only (target layout live zone)
asked_zone layout live (Erase zone) = target layout live zone
asked_zone layout live (Dump time packed body) = target layout live (asked_name live (Dump time packed body))

-- whether a flight in another zone is in its way: for a dump, one in any dump zone
abbrev pub is_barred : List Zone → LiveState → Ask → Bool
is_barred layout live (Append zone payload) = false
is_barred layout live (Erase zone) = false
is_barred layout live (Dump time packed body) = flies layout live (λ z. is_of DumpKind z.name.kind)

-- a call begun: first `NoZone`, and then `Busy`
abbrev pub begins : List Zone → LiveState → Call → Bool → Option Target → Result LiveState Refusal
begins layout live call barred None = Err NoZone
begins layout live call barred (Some t) =
    if barred || is_some t.live.flight then Err Busy else Ok (changed layout live t (λ z zone. begun z call zone))

-- what is asked, begun
abbrev pub begin : List Zone → LiveState → Ask → Result LiveState Refusal
begin layout live ask = begins layout live (call_of ask) (is_barred layout live ask) (asked_zone layout live ask)

-- a flight goes on: first `NoZone`, and then `Idle`
abbrev pub goes_on : List Zone → LiveState → (Zone → LiveZone → LiveZone) → Option Target → Result LiveState Refusal
goes_on layout live change None = Err NoZone
goes_on layout live change (Some t) = if is_some t.live.flight then Ok (changed layout live t change) else Err Idle

-- the next k stores of a zone's flight, or all that are left
abbrev pub step : List Zone → LiveState → ZoneName → ℕ → Result LiveState Refusal
step layout live name k = goes_on layout live (λ z zone. stepped z k zone) (target layout live name)

-- all stores that are left
abbrev pub finish : List Zone → LiveState → ZoneName → Result LiveState Refusal
finish layout live name = goes_on layout live (λ z zone. finished z zone) (target layout live name)

-- a zone's flight finished, where there is one
abbrev pub finish_at : List Zone → LiveState → Option Target → LiveState
finish_at layout live None = live
finish_at layout live (Some t) = changed layout live t (λ z zone. finished z zone)

-- the flight that a call begun left in this zone, finished
abbrev pub and_finish : List Zone → ZoneName → Result LiveState Refusal → Result LiveState Refusal
and_finish layout name (Ok live) = Ok (finish_at layout live (target layout live name))
and_finish layout name (Err cause) = Err cause

-- what is asked, begun and finished
abbrev pub make : List Zone → LiveState → Ask → Result LiveState Refusal
make layout live ask = and_finish layout (asked_name live ask) (begin layout live ask)
