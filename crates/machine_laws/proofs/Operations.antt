-- Every operation leaves a sound state sound
use Rattle.std.proofs.Common.{◌≡◌, ℕ, ◌<◌, Bool, true, false, cond, nat_lt, List, [], ◌∷◌, length, refl, subst, Option}
use Rattle.std.proofs.Common.{Some, None, Result, Ok, Err}
use Rattle.std.specs.List.{AllByRecursion}
use Rattle.zone_spec.specs.declared.Zone.{Zone}
use Rattle.zone_spec.specs.declared.Refusal.{Refusal}
use Rattle.zone_spec.specs.declared.Refusal.TheVariants.{Busy, OutOfImage}
use Rattle.zone_spec.specs.declared.Name.{Name}
use Rattle.zone_spec.specs.Listing.{is_listed}
use Rattle.zone_spec.specs.Notices.{is_in}
use Rattle.zone_spec.specs.Layouts.{IsLayout}
use Rattle.machine_spec.specs.States.{OffState, LiveState, Session, Off, Live}
use Rattle.machine_spec.specs.Off.{flipped}
use Rattle.machine_spec.specs.ZoneCalls.{stepped, finished}
use Rattle.machine_spec.specs.LiveZones.{target, flies}
use Rattle.machine_spec.specs.LiveCalls.{asked_name, begin, step, finish, make}
use Rattle.machine_spec.specs.Erasures.{saved_logs, erased}
use Rattle.machine_spec.specs.Operations.{Operation, Flip, Boot, BootPart, Begin, Make, Step, Finish, EraseRecord, Stop}
use Rattle.machine_spec.specs.Operations.{Refused, NoRecord, answered, erases, operated, left_by, session_after}
use Rattle.machine_spec.specs.Sound.{IsState, IsOperation}
use Rattle.machine_laws.specs.Sessions.{FreshIsSound, OperationsKeepStatesSound, StatesAreSound}
use Rattle.machine_laws.proofs.Zones.{stepped-sound, finished-sound}
use Rattle.machine_laws.proofs.Targets.{target-some}
use Rattle.machine_laws.proofs.LiveStates.{begin-sound, and_finish-sound, goes_on-sound, erased-state}
use Rattle.machine_laws.proofs.OffStates.{stopped-state, booted-state, flipped-state, fresh-state}
use Rattle.machine_laws.proofs.PartedStates.{parted-state}

module _ (layout : List Zone) (mem : ℕ) (lies : IsLayout layout mem) where
  answered-sound : (live : LiveState) (r : Result LiveState Refusal) → IsState layout mem (Live live)
      → ((next : LiveState) → r ≡ Ok next → IsState layout mem (Live next))
      → IsState layout mem (left_by (Live live) (answered r))
  answered-sound live (Ok next) state h = h next refl
  answered-sound live (Err why) state h = state

  erases-sound : (live : LiveState) (name : Name) → IsState layout mem (Live live)
      → IsState layout mem (left_by (Live live) (erases layout live name))
  erases-sound live name state =
      by (is_listed (saved_logs layout live) name) (flies layout live (λ z. is_in name z)) refl
    where
      by : (a b : Bool) → flies layout live (λ z. is_in name z) ≡ b
          → IsState layout mem (left_by (Live live) (cond a (cond b (Err (Refused Busy))
          (Ok (Live (erased layout live name)))) (Err NoRecord)))
      by true true h = state
      by true false h = erased-state layout mem lies live name state h
      by false b h = state

  flip-sound : (off : OffState) (place mask : ℕ) (b : Bool) → mask < 256 → IsState layout mem (Off off)
      → IsState layout mem (left_by (Off off) (cond b (Ok (Off (flipped off place mask))) (Err (Refused OutOfImage))))
  flip-sound off place mask true small state = flipped-state layout mem lies off place mask small state
  flip-sound off place mask false small state = state

  -- every operation leaves a sound state sound
  pub operation-sound : (session : Session) (operation : Operation) → IsOperation operation
      → IsState layout mem session → IsState layout mem (left_by session (operated layout session operation))
  operation-sound (Live live) (Begin ask) fit state = answered-sound live (begin layout live ask) state
      (λ next e. begin-sound layout mem lies live ask next fit state e)
  operation-sound (Live live) (Make ask) fit state =
      answered-sound live (make layout live ask) state (λ next e. and_finish-sound layout mem lies
      (asked_name live ask) (begin layout live ask) next
      (λ mid h. begin-sound layout mem lies live ask mid fit state h) e)
  operation-sound (Live live) (Step name count) fit state =
      answered-sound live (step layout live name count) state (λ next e.
      goes_on-sound layout mem lies live (λ z zone. stepped z count zone) (target layout live name) next state
      (λ t k. target-some layout live name t k) (λ z v valid sound. stepped-sound z valid count v sound) e)
  operation-sound (Live live) (Finish name) fit state =
      answered-sound live (finish layout live name) state (λ next e.
      goes_on-sound layout mem lies live (λ z zone. finished z zone) (target layout live name) next state
      (λ t k. target-some layout live name t k) (λ z v valid sound. finished-sound z valid v sound) e)
  operation-sound (Live live) (EraseRecord name) fit state = erases-sound live name state
  operation-sound (Live live) Stop fit state = stopped-state layout mem lies live state
  operation-sound (Live live) (Flip place mask) fit state = state
  operation-sound (Live live) Boot fit state = state
  operation-sound (Live live) (BootPart limit) fit state = state
  operation-sound (Off off) (Flip place mask) fit state =
      flip-sound off place mask (nat_lt place (length off.image)) fit state
  operation-sound (Off off) Boot fit state = booted-state layout mem lies off state
  operation-sound (Off off) (BootPart limit) fit state = parted-state layout mem lies limit off state
  operation-sound (Off off) (Begin ask) fit state = state
  operation-sound (Off off) (Make ask) fit state = state
  operation-sound (Off off) (Step name count) fit state = state
  operation-sound (Off off) (Finish name) fit state = state
  operation-sound (Off off) (EraseRecord name) fit state = state
  operation-sound (Off off) Stop fit state = state

  run-sound : (session : Session) (operations : List Operation) → AllByRecursion IsOperation operations
      → IsState layout mem session → IsState layout mem (session_after layout session operations)
  unfolding session_after
  run-sound session [] fit state = state
  run-sound session (o ∷ os) fit state = run-sound (left_by session (operated layout session o)) os fit.1
      (operation-sound session o fit.0 state)

pub fresh_is_sound : FreshIsSound
fresh_is_sound layout mem image lies size bytes = fresh-state layout mem lies image size bytes

pub operations_keep_states_sound : OperationsKeepStatesSound
operations_keep_states_sound layout mem session operation lies state fit =
    operation-sound layout mem lies session operation fit state

pub states_are_sound : StatesAreSound
states_are_sound layout mem session lies reached =
    subst (IsState layout mem) reached.state (run-sound layout mem lies _ reached.operations reached.fit
    (fresh-state layout mem lies reached.image reached.size reached.bytes))
