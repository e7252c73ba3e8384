-- A boot of a moved image lists the records that fit, and its zones read clean
use Rattle.std.proofs.Common.{◌≡◌, ℕ, ◌+◌, ◌^◌, ◌<◌, Bool, true, false, nat_lt, get_or, List, [], ◌++◌, length, drop}
use Rattle.std.proofs.Common.{take, Option, Some, None, Ok, Err, IfSome, refl, sym, ap, ◌∙◌, subst, arith}
use Rattle.command_spec.specs.PlanAnswers.{ImageAnswers, statuses}
use Rattle.std.specs.Prelude.{filter, slice_get}
use Rattle.std.proofs.Math.Seq.{take-append_seam, drop-append_seam}
use Rattle.std.proofs.lemmas.Option.{slice_get_within, slice_get-get_or}
use Rattle.outside.specs.Outside.{Writes, written}
use Rattle.zone_spec.specs.declared.Zone.{Zone}
use Rattle.zone_spec.specs.Layout.{layout_of, zones_of}
use Rattle.zone_spec.specs.Layouts.{IsLayout}
use Rattle.zone_spec.specs.Parts.{AreBytes}
use Rattle.zone_spec.specs.Records.{Saved, Listed, listed_of}
use Rattle.ramoops_layout.proofs.WholeLayout.{whole_layout, no_fault}
use Rattle.prz_region.proofs.Chains.{AreBytes-take}
use Rattle.machine_spec.specs.Zones.{zone_bytes}
use Rattle.machine_spec.specs.States.{OffZone, OffState}
use Rattle.machine_spec.specs.Off.{fresh}
use Rattle.machine_spec.specs.Boot.{booted}
use Rattle.machine_spec.specs.Erasures.{saved_logs}
use Rattle.machine_spec.specs.Moved.{fits, fitting, moved}
use Rattle.move_laws.specs.Moves.{LogsFit, ReadsLog}
use Rattle.move_laws.specs.Listed.{AreNamed}
use Rattle.move_laws.proofs.MovedState.{moved_image_reads, moved_image_is_sound}
use Rattle.move_laws.proofs.SavedLogs.{image_logs_fit}
use Rattle.move_laws.proofs.Rising.{layouts_are_named, layouts_keep_records}
use Rattle.command_spec.specs.Commands.{MovePlan, laid_mem, after_boot, Wanted, stops, wanted_move, OfMove}
use Rattle.command_spec.specs.Answers.{Outside, IfHolds, WritesAll}
use Rattle.command_spec.specs.declared.Stop.TheVariants.{Short}
use Rattle.commands.specs.Moves.{Moves, logs_in}

-- the zones of both parameters are their layouts
pub record IsLaidMove (plan : MovePlan) : Type 0 where
  pub from : layout_of plan.from.params ≡ Ok plan.from.zones
  pub to : layout_of plan.to.params ≡ Ok plan.to.zones
  pub small : plan.to.params.ftrace_sig < 2 ^ 32

-- ---- the store's bytes after the image was written

after_front : (bytes image : List ℕ) (mem : ℕ) → length image ≡ mem → take mem (written bytes 0 image) ≡ image
after_front bytes image mem h = subst (λ (n : ℕ). take n (image ++ drop (0 + length image) bytes) ≡ image) h
    (take-append_seam image (drop (0 + length image) bytes))

zero_more : (n : ℕ) → 0 + n ≡ n
zero_more n = omega arith

after_rest : (bytes image : List ℕ) (mem : ℕ) → length image ≡ mem
    → drop mem (written bytes 0 image) ≡ drop mem bytes
after_rest bytes image mem h = subst (λ (n : ℕ). drop n (image ++ drop (0 + length image) bytes) ≡ drop n bytes) h
    (drop-append_seam image (drop (0 + length image) bytes)
    ∙ ap (λ (k : ℕ). drop k bytes) (zero_more (length image)))

-- ---- what is carried over

module _ (plan : MovePlan) (bytes : List ℕ) (laid : IsLaidMove plan) (all : AreBytes bytes) where
  abbrev old : OffState
  old = fresh plan.from.zones (take (laid_mem plan.from) bytes)

  abbrev logs : List Saved
  logs = logs_in plan.from bytes

  abbrev new : OffState
  new = moved plan.to.zones (laid_mem plan.to) (fitting plan.to.zones logs)

  from_is : zones_of plan.from.params ≡ plan.from.zones
  from_is = (no_fault plan.from.params plan.from.zones laid.from).same

  to_is : zones_of plan.to.params ≡ plan.to.zones
  to_is = (no_fault plan.to.params plan.to.zones laid.to).same

  lies : IsLayout plan.to.zones (laid_mem plan.to)
  lies = whole_layout plan.to.params plan.to.zones laid.small laid.to

  front : AreBytes old.image
  front = AreBytes-take (laid_mem plan.from) bytes all

  fit : LogsFit plan.to.zones (fitting plan.to.zones logs)
  fit = image_logs_fit plan.from.zones plan.to.zones old
      (subst (λ (zs : List Zone). AreNamed zs) to_is (layouts_are_named plan.to.params)) front

  size : length new.image ≡ laid_mem plan.to
  size = (moved_image_is_sound plan.to.zones (laid_mem plan.to) (fitting plan.to.zones logs) lies fit).image.0

  kept : listed_of (saved_logs plan.to.zones (booted plan.to.zones new))
      ≡ filter (λ (r : Listed). fits plan.to.zones logs r.name) (listed_of logs)
  kept = subst
      (λ (from : List Zone). let saved : List Saved =
      saved_logs from (booted from (fresh from (take (laid_mem plan.from) bytes))) in
      listed_of (saved_logs plan.to.zones (booted plan.to.zones
      (moved plan.to.zones (laid_mem plan.to) (fitting plan.to.zones saved))))
      ≡ filter (λ (r : Listed). fits plan.to.zones saved r.name) (listed_of saved)) from_is
      (subst
      (λ (to : List Zone). let from : List Zone = zones_of plan.from.params in
      let saved : List Saved = saved_logs from (booted from (fresh from (take (laid_mem plan.from) bytes))) in
      listed_of (saved_logs to (booted to (moved to (laid_mem plan.to) (fitting to saved))))
      ≡ filter (λ (r : Listed). fits to saved r.name) (listed_of saved)) to_is
      (layouts_keep_records plan.from.params plan.to.params (laid_mem plan.to)
      (fresh (zones_of plan.from.params) (take (laid_mem plan.from) bytes))
      (subst (λ (zs : List Zone). IsLayout zs (laid_mem plan.to)) (sym to_is) lies) front))

  clean_by : (i : ℕ) (z : Zone) → slice_get plan.to.zones i ≡ Some z
      → ReadsLog (fitting plan.to.zones logs) z (zone_bytes z new.image)
  clean_by i z at =
      let reads = moved_image_reads plan.to.zones (laid_mem plan.to) (fitting plan.to.zones logs) lies fit in
      let within : i < length new.zones = omega (arith, reads.0, slice_get_within plan.to.zones i z at) in
      let blank : OffZone = record { stop = []; told = None; cut = None } in
      reads.1 i z (get_or new.zones i blank) at (slice_get-get_or new.zones i blank within)

  -- the store after the image was written
  pub moves : (b : Outside) → Writes (Some bytes) b.holds 0 new.image → Moves plan bytes b
  moves b w = by b.holds refl w
    where
      by : (o : Option (List ℕ)) → b.holds ≡ o → Writes (Some bytes) o 0 new.image → Moves plan bytes b
      by None e w = absurd w
      by (Some after) e w =
          let is : take (laid_mem plan.to) after ≡ new.image =
          ap (take (laid_mem plan.to)) w ∙ after_front bytes new.image (laid_mem plan.to) size in
          record {
            after = after;
            holds = e;
            lists = subst
                (λ (image : List ℕ). listed_of (saved_logs plan.to.zones (after_boot plan.to.zones image))
                ≡ filter (λ (r : Listed). fits plan.to.zones logs r.name) (listed_of logs)) (sym is) kept;
            clean = λ i z at. subst
                (λ (image : List ℕ). ReadsLog (fitting plan.to.zones logs) z (zone_bytes z image)) (sym is)
                (clean_by i z at);
            rest = ap (drop (laid_mem plan.to)) w ∙ after_rest bytes new.image (laid_mem plan.to) size;
          }

-- ---- the run

short_not_done : (w : Wanted) (has needed : ℕ) → w ≡ stops (Short has needed) → w.end ≡ Ok tt → ⊥
short_not_done w has needed e h =
    let clash : Err (Short has needed) ≡ Ok tt = sym (ap (λ (x : Wanted). x.end) e) ∙ h in cc

moved_by : (plan : MovePlan) (bytes : List ℕ) (t : Bool) → nat_lt (length bytes) (laid_mem plan.from) ≡ t
    → (wanted_move plan bytes).end ≡ Ok tt
    → (wanted_move plan bytes).writes
    ≡ Some (moved plan.to.zones (laid_mem plan.to) (fitting plan.to.zones (logs_in plan.from bytes))).image
moved_by plan bytes true e h = absurd (short_not_done (wanted_move plan bytes) (length bytes) (laid_mem plan.from)
    (rw e refl) h)
moved_by plan bytes false e h = rw e refl

pub move_reads : (plan : MovePlan) (a b : Outside) (status : ℕ) → IsLaidMove plan → IfSome a.holds AreBytes
    → ImageAnswers (statuses (OfMove plan)) (wanted_move plan) a b status → status ≡ 0
    → IfHolds a (λ bytes. Moves plan bytes b)
move_reads plan a b status laid held answers zero = record {
  told = λ bytes holds.
      let d = (answers.whole.told bytes holds).done zero in
      let all : AreBytes bytes = rw holds at held in
      let image : List ℕ =
      (moved plan.to.zones (laid_mem plan.to) (fitting plan.to.zones (logs_in plan.from bytes))).image in
      let writes : WritesAll (Some image) (Some bytes) b.holds =
      subst (λ (o : Option (List ℕ)). WritesAll (Some image) o b.holds) holds
      (subst (λ (w : Option (List ℕ)). WritesAll w a.holds b.holds)
      (moved_by plan bytes (nat_lt (length bytes) (laid_mem plan.from)) refl d.0) d.2) in
      moves plan bytes laid all b writes;
}
