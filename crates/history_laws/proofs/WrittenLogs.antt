-- Every state of a session tells what was written, and so the next boot reads it
use Rattle.std.proofs.Common.{◌≡◌, ℕ, Bool, true, false, cond, nat_lt, nat_le, List, [], ◌∷◌, length, slice_get, refl}
use Rattle.std.proofs.Common.{sym, ap, subst, Option, Some, None, Result, Ok, Err}
use Rattle.std.specs.Option.{option_map}
use Rattle.std.specs.List.{AllByRecursion}
use Rattle.zone_spec.specs.declared.Zone.{Zone}
use Rattle.zone_spec.specs.declared.ZoneName.{ZoneName}
use Rattle.zone_spec.specs.declared.Name.{Name}
use Rattle.zone_spec.specs.declared.Refusal.{Refusal}
use Rattle.zone_spec.specs.declared.Refusal.TheVariants.{Busy, OutOfImage}
use Rattle.zone_spec.specs.Listing.{is_listed}
use Rattle.zone_spec.specs.Notices.{is_in}
use Rattle.zone_spec.specs.Boot.{boot_fixes, told_by_boot}
use Rattle.zone_spec.specs.Told.{last_items}
use Rattle.zone_spec.specs.Layouts.{IsLayout}
use Rattle.machine_spec.specs.Zones.{zone_bytes}
use Rattle.machine_spec.specs.States.{OffZone, OffState, LiveZone, LiveState, Session, Off, Live}
use Rattle.machine_spec.specs.Off.{fresh, flipped}
use Rattle.machine_spec.specs.ZoneCalls.{begun, stepped, finished, stores_left}
use Rattle.machine_spec.specs.LiveZones.{target, flies}
use Rattle.machine_spec.specs.LiveCalls.{Ask, asked_name, asked_zone, call_of, is_barred, begin, step, finish, make}
use Rattle.machine_spec.specs.Erasures.{saved_logs, erased}
use Rattle.machine_spec.specs.Stop.{zone_stopped}
use Rattle.machine_spec.specs.Boot.{booted_zone}
use Rattle.machine_spec.specs.BootPart.{is_finished, zone_finished, zone_cut, boot_count, left_at}
use Rattle.machine_spec.specs.Operations.{Operation, Flip, Boot, BootPart, Begin, Make, Step, Finish, EraseRecord, Stop}
use Rattle.machine_spec.specs.Operations.{Cause, Refused, NoRecord, answered, erases, operated, left_by, session_after}
use Rattle.machine_spec.specs.Sound.{IsState, IsOperation, IsReached}
use Rattle.machine_laws.proofs.Lists.{get-map, get-zip-map, parted-at}
use Rattle.machine_laws.proofs.Targets.{target-some}
use Rattle.machine_laws.proofs.OffStates.{off_bytes, fresh-state}
use Rattle.machine_laws.proofs.Operations.{operation-sound, states_are_sound}
use Rattle.machine_laws.proofs.LastWritten.{state_reads, headline as reached_reads}
use Rattle.history_spec.specs.Written.{written_by, written, written_in}
use Rattle.history_laws.specs.Headline.{ReadsWritten, Headline, CutsAreReported}
use Rattle.history_laws.specs.Laws.{TellsWritten, ToldIsWritten}
use Rattle.history_laws.proofs.ZoneSteps.{kept_tells, stepped_tells, begun_tells}
use Rattle.history_laws.proofs.Steps.{FlownTells, began, asked_target, changed_tells, went_tells, make_tells}
use Rattle.history_laws.proofs.Steps.{erased_record}

module _ (layout : List Zone) (mem : ℕ) (lies : IsLayout layout mem) (i : ℕ) (z : Zone)
    (hz : slice_get layout i ≡ Some z) (w : Option (List ℕ)) where
  -- the zone after an operation with this result
  abbrev After : Session → Operation → Result Session Cause → Type 0
  After session o r = IsState layout mem (left_by session r)
      → TellsWritten i z (written_by layout i z session o r w) (left_by session r)

  -- ---- live

  begin_tells : (live : LiveState) (ask : Ask) → TellsWritten i z w (Live live)
      → After (Live live) (Begin ask) (answered (begin layout live ask))
  begin_tells live ask h = by (begin layout live ask) refl
    where
      by : (r : Result LiveState Refusal) → begin layout live ask ≡ r → After (Live live) (Begin ask) (answered r)
      by (Err why) e state = h
      by (Ok next) e state =
          let b = began layout live next (call_of ask) (is_barred layout live ask) (asked_zone layout live ask) e in
          let at = target-some layout live (asked_name live ask) b.t (asked_target layout live ask b.t b.target_is) in
          subst (FlownTells layout mem lies i z hz w live) b.next_is
          (changed_tells layout mem lies i z hz w live b.t (λ y zone. begun y (call_of ask) zone) at
          (subst (λ n. IsState layout mem (Live n)) (sym b.next_is) state) h
          (λ v tells fits. begun_tells z (call_of ask) v w tells))

  making_tells : (live : LiveState) (ask : Ask) → TellsWritten i z w (Live live)
      → After (Live live) (Make ask) (answered (make layout live ask))
  making_tells live ask h = by (make layout live ask) refl
    where
      by : (r : Result LiveState Refusal) → make layout live ask ≡ r → After (Live live) (Make ask) (answered r)
      by (Err why) e state = h
      by (Ok next) e state = make_tells layout mem lies i z hz w live next ask e state h

  step_tells : (live : LiveState) (name : ZoneName) (count : ℕ) → TellsWritten i z w (Live live)
      → After (Live live) (Step name count) (answered (step layout live name count))
  step_tells live name count h = by (step layout live name count) refl
    where
      by : (r : Result LiveState Refusal) → step layout live name count ≡ r
          → After (Live live) (Step name count) (answered r)
      by (Err why) e state = h
      by (Ok next) e state =
          went_tells layout mem lies i z hz w live next (λ y zone. stepped y count zone) (target layout live name)
          (λ t k. target-some layout live name t k) e state h
          (λ v tells fits. stepped_tells v.flight z count v w tells fits)

  finish_tells : (live : LiveState) (name : ZoneName) → TellsWritten i z w (Live live)
      → After (Live live) (Finish name) (answered (finish layout live name))
  finish_tells live name h = by (finish layout live name) refl
    where
      by : (r : Result LiveState Refusal) → finish layout live name ≡ r → After (Live live) (Finish name) (answered r)
      by (Err why) e state = h
      by (Ok next) e state =
          went_tells layout mem lies i z hz w live next (λ y zone. finished y zone) (target layout live name)
          (λ t k. target-some layout live name t k) e state h
          (λ v tells fits. stepped_tells v.flight z (stores_left v.flight z) v w tells fits)

  erase_tells : (live : LiveState) (name : Name) → TellsWritten i z w (Live live)
      → After (Live live) (EraseRecord name) (erases layout live name)
  erase_tells live name h =
      by (is_listed (saved_logs layout live) name) (flies layout live (λ y. is_in name y)) refl
    where
      by : (a b : Bool) → flies layout live (λ y. is_in name y) ≡ b
          → After (Live live) (EraseRecord name) (cond a (cond b (Err (Refused Busy))
          (Ok (Live (erased layout live name)))) (Err NoRecord))
      by true true f state = h
      by true false f state = erased_record layout mem lies i z hz w live name f state h
      by false b f state = h

  stop_tells : (live : LiveState) → TellsWritten i z w (Live live)
      → After (Live live) Stop (operated layout (Live live) Stop)
  stop_tells live h state = λ u hu.
      let r = get-zip-map zone_stopped layout live.zones i z u hz hu in
      subst (λ (x : OffZone). x.told ≡ option_map (last_items z.cap) w) r.2 (h r.0 r.1)

  -- ---- off

  flip_tells : (off : OffState) (place mask : ℕ) → TellsWritten i z w (Off off)
      → After (Off off) (Flip place mask) (operated layout (Off off) (Flip place mask))
  flip_tells off place mask h = by (nat_lt place (length off.image))
    where
      by : (b : Bool) → After (Off off) (Flip place mask)
          (cond b (Ok (Off (flipped off place mask))) (Err (Refused OutOfImage)))
      by true state = h
      by false state = h

  boot_tells : (off : OffState) → IsState layout mem (Off off) → After (Off off) Boot (operated layout (Off off) Boot)
  boot_tells off state next = λ u hu.
      let r : booted_zone off.image z ≡ u = get-map (booted_zone off.image) layout i z u hz hu in
      subst (λ (x : LiveZone). Some x.told ≡ option_map (last_items z.cap)
      (Some (told_by_boot z (zone_bytes z off.image)))) r
      (kept_tells z (zone_bytes z off.image) (lies.valid i z hz).0 (off_bytes layout mem lies off state i z hz))

  part_tells : (off : OffState) (limit : ℕ) → IsState layout mem (Off off) → TellsWritten i z w (Off off)
      → After (Off off) (BootPart limit) (operated layout (Off off) (BootPart limit))
  part_tells off limit state h next = λ u hu.
      let all : Bool = nat_le (boot_count layout off.image) limit in
      let r = parted-at off.image all layout limit off.zones i z u hz hu in
      subst (λ (x : OffZone). x.told ≡ option_map (last_items z.cap)
      (cond ends (Some (told_by_boot z (zone_bytes z off.image))) w)) r.2
      (by ends (nat_lt (length (boot_fixes z bytes)) (left_at layout off.image limit i)) r.0
      (h r.0 r.1))
    where
      bytes : List ℕ
      bytes = zone_bytes z off.image

      ends : Bool
      ends = is_finished z bytes (nat_le (boot_count layout off.image) limit) (left_at layout off.image limit i)

      by : (a b : Bool) (zone : OffZone) → zone.told ≡ option_map (last_items z.cap) w
          → (cond a (zone_finished z bytes)
          (cond b (zone_cut z bytes (left_at layout off.image limit i) zone) zone)).told
          ≡ option_map (last_items z.cap) (cond a (Some (told_by_boot z (zone_bytes z off.image))) w)
      by true b zone k = kept_tells z bytes (lies.valid i z hz).0 (off_bytes layout mem lies off state i z hz)
      by false true zone k = k
      by false false zone k = k

  -- ---- every operation

  pub operation_tells : (session : Session) (o : Operation) → IsState layout mem session → TellsWritten i z w session
      → After session o (operated layout session o)
  operation_tells (Live live) (Begin ask) state h = begin_tells live ask h
  operation_tells (Live live) (Make ask) state h = making_tells live ask h
  operation_tells (Live live) (Step name count) state h = step_tells live name count h
  operation_tells (Live live) (Finish name) state h = finish_tells live name h
  operation_tells (Live live) (EraseRecord name) state h = erase_tells live name h
  operation_tells (Live live) Stop state h = stop_tells live h
  operation_tells (Live live) (Flip place mask) state h = λ next. h
  operation_tells (Live live) Boot state h = λ next. h
  operation_tells (Live live) (BootPart limit) state h = λ next. h
  operation_tells (Off off) (Flip place mask) state h = flip_tells off place mask h
  operation_tells (Off off) Boot state h = boot_tells off state
  operation_tells (Off off) (BootPart limit) state h = part_tells off limit state h
  operation_tells (Off off) (Begin ask) state h = λ next. h
  operation_tells (Off off) (Make ask) state h = λ next. h
  operation_tells (Off off) (Step name count) state h = λ next. h
  operation_tells (Off off) (Finish name) state h = λ next. h
  operation_tells (Off off) (EraseRecord name) state h = λ next. h
  operation_tells (Off off) Stop state h = λ next. h

-- and every run of them
run_tells : (layout : List Zone) (mem : ℕ) (lies : IsLayout layout mem) (i : ℕ) (z : Zone)
    → slice_get layout i ≡ Some z → (w : Option (List ℕ)) (session : Session) (os : List Operation)
    → AllByRecursion IsOperation os → IsState layout mem session → TellsWritten i z w session
    → TellsWritten i z (written layout i z w session os) (session_after layout session os)
unfolding written session_after
run_tells layout mem lies i z hz w session [] fit state h = h
run_tells layout mem lies i z hz w session (o ∷ os) fit state h =
    let next = operation-sound layout mem lies session o fit.0 state in
    run_tells layout mem lies i z hz (written_by layout i z session o (operated layout session o) w)
    (left_by session (operated layout session o)) os fit.1 next
    (operation_tells layout mem lies i z hz w session o state h next)

pub fresh_tells : (layout : List Zone) (image : List ℕ) (i : ℕ) (z : Zone) → slice_get layout i ≡ Some z
    → TellsWritten i z None (Off (fresh layout image))
fresh_tells layout image i z hz = λ u hu.
    let r = get-map (λ y. record { stop = zone_bytes y image; told = None; cut = None }) layout i z u hz hu in
    ap (λ (x : OffZone). x.told) (sym r)

pub told_is_written : ToldIsWritten
told_is_written layout mem session i z lies r hz =
    subst (TellsWritten i z (written_in layout r.image r.operations i z)) r.state
    (run_tells layout mem lies i z hz None (Off (fresh layout r.image)) r.operations r.fit
    (fresh-state layout mem lies r.image r.size r.bytes) (fresh_tells layout r.image i z hz))

-- ---- the next boot

-- of a sound state that tells what was written
pub state_reads_written : (layout : List Zone) (mem : ℕ) (off : OffState) (i : ℕ) (z : Zone) (zone : OffZone)
    (bytes : List ℕ) → IsLayout layout mem → IsState layout mem (Off off) → TellsWritten i z (Some bytes) (Off off)
    → slice_get layout i ≡ Some z → slice_get off.zones i ≡ Some zone
    → ReadsWritten z zone.cut zone.stop (zone_bytes z off.image) bytes
state_reads_written layout mem off i z zone bytes lies state tells hz hv =
    let told : zone.told ≡ Some (last_items z.cap bytes) = tells zone hv in
    let reads = (state_reads layout mem off lies state).1 i z zone hz hv in
    record {
      idle = reads.idle (last_items z.cap bytes) told;
      places = λ cut call c own. reads.places (last_items z.cap bytes) cut call told c own;
    }

pub headline : Headline
headline layout mem image os off i z zone bytes lies size are fit e written_is hz hv =
    let r : IsReached layout mem (Off off) = record {
      image = image;
      operations = os;
      size = size;
      bytes = are;
      fit = fit;
      state = e;
    } in
    state_reads_written layout mem off i z zone bytes lies (states_are_sound layout mem (Off off) lies r)
    (subst (λ w. TellsWritten i z w (Off off)) written_is (told_is_written layout mem (Off off) i z lies r hz)) hz hv

pub cuts_are_reported : CutsAreReported
cuts_are_reported layout mem off lies r =
    let each = reached_reads layout mem off lies r in (each.0, λ i z zone hz hv. (each.1 i z zone hz hv).reported)
