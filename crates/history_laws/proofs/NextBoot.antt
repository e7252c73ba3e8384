-- A session, a stop, flips and a boot
use Rattle.std.proofs.Common.{◌≡◌, ℕ, zero, suc, Bool, true, false, cond, nat_lt, nat_le, ◌≤◌, true≢false, get_or}
use Rattle.std.proofs.Common.{arith, List, [], ◌∷◌, ◌++◌, map, length, slice_get, refl, sym, ap, ◌∙◌, subst, Some, None}
use Rattle.std.proofs.Common.{Ok, Err}
use Rattle.std.specs.Prelude.{zip}
use Rattle.std.specs.Option.{option_map}
use Rattle.std.specs.List.{AllByRecursion}
use Rattle.std.proofs.lemmas.Bool.Decides.{nat_tests}
use Rattle.std.proofs.lemmas.Option.{slice_get-map, slice_get_within, slice_get-get_or}
use Rattle.list_laws.proofs.Elements.{AllByRecursion-append}
use Rattle.zone_spec.specs.declared.Zone.{Zone}
use Rattle.zone_spec.specs.declared.Refusal.TheVariants.{OutOfImage}
use Rattle.zone_spec.specs.Reading.{zone_reading}
use Rattle.zone_spec.specs.Boot.{boot_fixes}
use Rattle.zone_spec.specs.Told.{last_items}
use Rattle.machine_spec.specs.Zones.{zone_bytes}
use Rattle.machine_spec.specs.States.{OffZone, OffState, LiveState, Session, Off, Live}
use Rattle.machine_spec.specs.Off.{fresh, flipped}
use Rattle.machine_spec.specs.Stop.{zone_stopped, stopped}
use Rattle.machine_spec.specs.Boot.{booted}
use Rattle.machine_spec.specs.BootPart.{boot_count, is_finished, left_at, zone_finished, zone_cut, zone_parted}
use Rattle.machine_spec.specs.BootPart.{boot_parted}
use Rattle.machine_spec.specs.Operations.{Operation, Flip, Boot, BootPart, Begin, Make, Step, Finish, EraseRecord, Stop}
use Rattle.machine_spec.specs.Operations.{Refused, operated, left_by, session_after}
use Rattle.machine_spec.specs.Sound.{IsState, IsOperation, IsReached}
use Rattle.machine_laws.proofs.Lists.{length-parted}
use Rattle.machine_laws.proofs.OffStates.{stopped-state}
use Rattle.machine_laws.proofs.CutBoot.{new_zone}
use Rattle.machine_laws.proofs.Operations.{states_are_sound}
use Rattle.history_laws.specs.Laws.{TellsWritten, LeavesZone, AllLeaveZone, NextBootReadsWritten}
use Rattle.history_laws.proofs.WrittenLogs.{told_is_written, state_reads_written}

get-zip : {X Y W : Type 0} (f : X × Y → W) (xs : List X) (ys : List Y) (i : ℕ) (x : X) (y : Y) → slice_get xs i ≡ Some x
    → slice_get ys i ≡ Some y → slice_get (map f (zip xs ys)) i ≡ Some (f (x, y))
get-zip f [] ys i x y e h = let b : Some x ≡ None = sym e in absurd (cc)
get-zip f (u ∷ us) [] i x y e h = let b : Some y ≡ None = sym h in absurd (cc)
get-zip f (u ∷ us) (v ∷ vs) zero x y e h = let a : u ≡ x = cc in let b : v ≡ y = cc in rw (a, b) refl
get-zip f (u ∷ us) (v ∷ vs) (suc i) x y e h = get-zip f us vs i x y e h

pub after_append : (layout : List Zone) (s : Session) (xs ys : List Operation)
    → session_after layout s (xs ++ ys) ≡ session_after layout (session_after layout s xs) ys
unfolding session_after
after_append layout s [] ys = refl
after_append layout s (o ∷ xs) ys = after_append layout (left_by s (operated layout s o)) xs ys

pub after_one : (layout : List Zone) (s : Session) (o : Operation) (os : List Operation)
    → session_after layout s (o ∷ os) ≡ session_after layout (left_by s (operated layout s o)) os
unfolding session_after
after_one layout s o os = refl

pub after_none : (layout : List Zone) (s : Session) → session_after layout s [] ≡ s
unfolding session_after
after_none layout s = refl

-- ---- a zone that is left to its stop

-- such operations may be asked
leaves_fit : (layout : List Zone) (i : ℕ) (z : Zone) (session : Session) (os : List Operation)
    → AllLeaveZone layout i z session os → AllByRecursion IsOperation os
unfolding AllLeaveZone
leaves_fit layout i z session [] h = tt
leaves_fit layout i z (Live live) (o ∷ os) h = absurd h
leaves_fit layout i z (Off off) (Flip place mask ∷ os) h =
    (h.0, leaves_fit layout i z (left_by (Off off) (operated layout (Off off) (Flip place mask))) os h.1)
leaves_fit layout i z (Off off) (BootPart limit ∷ os) h =
    (tt, leaves_fit layout i z (left_by (Off off) (operated layout (Off off) (BootPart limit))) os h.1)
leaves_fit layout i z (Off off) (Boot ∷ os) h = absurd h.0
leaves_fit layout i z (Off off) (Begin ask ∷ os) h = absurd h.0
leaves_fit layout i z (Off off) (Make ask ∷ os) h = absurd h.0
leaves_fit layout i z (Off off) (Step name count ∷ os) h = absurd h.0
leaves_fit layout i z (Off off) (Finish name ∷ os) h = absurd h.0
leaves_fit layout i z (Off off) (EraseRecord name ∷ os) h = absurd h.0
leaves_fit layout i z (Off off) (Stop ∷ os) h = absurd h.0

-- a cut boot that did not come to the zone's erasure, nor finished it
parted_stays : (z : Zone) (now : List ℕ) (all : Bool) (n : ℕ) (zone : OffZone) → is_finished z now all n ≡ false
    → n ≤ length (boot_fixes z now) → zone_parted z now all n zone ≡ zone
parted_stays z now all n zone unfinished few =
    by (is_finished z now all n) (nat_lt (length (boot_fixes z now)) n) unfinished (grind (arith, nat_tests, few))
  where
    by : (a b : Bool) → a ≡ false → b ≡ false
        → cond a (zone_finished z now) (cond b (zone_cut z now n zone) zone) ≡ zone
    by true b e f = absurd (true≢false e)
    by false true e f = absurd (true≢false f)
    by false false e f = refl

-- so what is held of the zone stays
part_stays : (layout : List Zone) (i : ℕ) (z : Zone) (zone : OffZone) (off : OffState) (limit : ℕ)
    → length off.zones ≡ length layout → slice_get layout i ≡ Some z → slice_get off.zones i ≡ Some zone
    → LeavesZone layout i z off (BootPart limit) → slice_get (boot_parted layout limit off).zones i ≡ Some zone
part_stays layout i z zone off limit len hz hv h =
    let after : OffState = boot_parted layout limit off in
    let all : Bool = nat_le (boot_count layout off.image) limit in
    let long : length after.zones ≡ length layout = length-parted off.image all layout limit off.zones len in
    let new : OffZone = get_or after.zones i zone in
    let at : slice_get after.zones i ≡ Some new =
    slice_get-get_or after.zones i zone (omega (arith, long, slice_get_within layout i z hz)) in
    at ∙ ap (λ (o : OffZone). Some o) (sym (new_zone layout off limit i z zone new hz hv at)
    ∙ parted_stays z (zone_bytes z off.image) all (left_at layout off.image limit i) zone h.0 h.1)

zone_stays : (layout : List Zone) (i : ℕ) (z : Zone) (zone : OffZone) (off damaged : OffState) (os : List Operation)
    → length off.zones ≡ length layout → slice_get layout i ≡ Some z → slice_get off.zones i ≡ Some zone
    → AllLeaveZone layout i z (Off off) os → session_after layout (Off off) os ≡ Off damaged
    → slice_get damaged.zones i ≡ Some zone
unfolding AllLeaveZone
zone_stays layout i z zone off damaged [] len hz hv h e =
    let same : Off off ≡ Off damaged = sym (after_none layout (Off off)) ∙ e in
    let s : off ≡ damaged = cc in subst (λ (d : OffState). slice_get d.zones i ≡ Some zone) s hv
zone_stays layout i z zone off damaged (Flip place mask ∷ os) len hz hv h e =
    by (nat_lt place (length off.image)) h.1 (sym (after_one layout (Off off) (Flip place mask) os) ∙ e)
    (zone_stays layout i z zone (flipped off place mask) damaged os len hz hv)
    (zone_stays layout i z zone off damaged os len hz hv)
  where
    by : (b : Bool) → AllLeaveZone layout i z (left_by (Off off) (cond b (Ok (Off (flipped off place mask)))
        (Err (Refused OutOfImage)))) os
        → session_after layout (left_by (Off off) (cond b (Ok (Off (flipped off place mask)))
        (Err (Refused OutOfImage)))) os ≡ Off damaged
        → (AllLeaveZone layout i z (Off (flipped off place mask)) os
        → session_after layout (Off (flipped off place mask)) os ≡ Off damaged → slice_get damaged.zones i ≡ Some zone)
        → (AllLeaveZone layout i z (Off off) os
        → session_after layout (Off off) os ≡ Off damaged → slice_get damaged.zones i ≡ Some zone)
        → slice_get damaged.zones i ≡ Some zone
    by true l e done refused = done l e
    by false l e done refused = refused l e
zone_stays layout i z zone off damaged (BootPart limit ∷ os) len hz hv h e =
    zone_stays layout i z zone (boot_parted layout limit off) damaged os
    (length-parted off.image (nat_le (boot_count layout off.image) limit) layout limit off.zones len) hz
    (part_stays layout i z zone off limit len hz hv h.0) h.1
    (sym (after_one layout (Off off) (BootPart limit) os) ∙ e)
zone_stays layout i z zone off damaged (Boot ∷ os) len hz hv h e = absurd h.0
zone_stays layout i z zone off damaged (Begin ask ∷ os) len hz hv h e = absurd h.0
zone_stays layout i z zone off damaged (Make ask ∷ os) len hz hv h e = absurd h.0
zone_stays layout i z zone off damaged (Step name count ∷ os) len hz hv h e = absurd h.0
zone_stays layout i z zone off damaged (Finish name ∷ os) len hz hv h e = absurd h.0
zone_stays layout i z zone off damaged (EraseRecord name ∷ os) len hz hv h e = absurd h.0
zone_stays layout i z zone off damaged (Stop ∷ os) len hz hv h e = absurd h.0

-- operations after a reached state reach what they leave
pub reached_on : (layout : List Zone) (mem : ℕ) (session next : Session) (more : List Operation)
    → IsReached layout mem session → AllByRecursion IsOperation more → session_after layout session more ≡ next
    → IsReached layout mem next
reached_on layout mem session next more r fit e = record {
  image = r.image;
  operations = r.operations ++ more;
  size = r.size;
  bytes = r.bytes;
  fit = AllByRecursion-append IsOperation r.operations more r.fit fit;
  state = after_append layout (Off (fresh layout r.image)) r.operations more
      ∙ ap (λ (s : Session). session_after layout s more) r.state ∙ e;
}

pub next_boot_reads_written : NextBootReadsWritten
next_boot_reads_written layout mem live next damaged between i z zone bytes lies r hz hv w all f b =
    let state : IsState layout mem (Off damaged) = states_are_sound layout mem (Off damaged) lies
    (reached_on layout mem (Live live) (Off damaged) (Stop ∷ between) r
    (tt, leaves_fit layout i z (Off (stopped layout live)) between all) f) in
    let stops : IsState layout mem (Off (stopped layout live)) = stopped-state layout mem lies live
    (states_are_sound layout mem (Live live) lies r) in
    let tells : Some zone.told ≡ Some (last_items z.cap bytes) = told_is_written layout mem
    (Live live) i z lies r hz zone
    hv ∙ ap (option_map (last_items z.cap)) w in
    let held : slice_get damaged.zones i ≡ Some (zone_stopped (z, zone)) =
    zone_stays layout i z (zone_stopped (z, zone)) (stopped layout live) damaged between stops.zones.0 hz
    (get-zip zone_stopped layout live.zones i z zone hz hv) all
    (sym (after_one layout (Live live) Stop between) ∙ f) in
    let known : TellsWritten i z (Some bytes) (Off damaged) =
    λ u hu. (let same : zone_stopped (z, zone) ≡ u = cc in ap (λ (x : OffZone). x.told) (sym same) ∙ tells) in
    let last : Live (booted layout damaged) ≡ Live next =
    sym (after_none layout (Live (booted layout damaged))) ∙ sym (after_one layout (Off damaged) Boot []) ∙ b in
    let same : booted layout damaged ≡ next = cc in (
      ap (λ (n : LiveState). slice_get n.logs i) (sym same)
          ∙ slice_get-map (λ y. Some (zone_reading y (zone_bytes y damaged.image))) layout i
          ∙ ap (option_map (λ y. Some (zone_reading y (zone_bytes y damaged.image)))) hz,
      state_reads_written layout mem damaged i z (zone_stopped (z, zone)) bytes lies state known hz held,
    )
