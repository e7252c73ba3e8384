-- How the commands that speak of a memory dump end
use Rattle.std.proofs.Common.{◌≡◌, ℕ, false, List, [], ◌∷◌, take, Ok, Err, refl, sym, ap, ◌∙◌, inl}
use Rattle.std.specs.Io.KnownBytes.{Appends}
use Rattle.outside.specs.Outside.{AppendsFront}
use Rattle.zone_spec.specs.declared.ZoneName.{ZoneName}
use Rattle.zone_spec.specs.Reading.{ZoneReading}
use Rattle.salvage_spec.specs.Rings.{read_at}
use Rattle.salvage_spec.specs.declared.FoundRing.{FoundRing}
use Rattle.salvage_spec.specs.declared.RingFault.{RingFault}
use Rattle.salvage_spec.specs.declared.RingFault.TheVariants.{NoZone, NoRing, Memory as RingMemory}
use Rattle.salvage.specs.Scans.{Scanned, IsFault}
use Rattle.grammar_spec.specs.Fields.{Text}
use Rattle.command_spec.specs.Ends.{End}
use Rattle.command_spec.specs.Texts.{rings_text}
use Rattle.command_spec.specs.Commands.{RamCommand, Salvage, Rescue, RamPlan, reads_image, front_of, dump_limit, shows}
use Rattle.command_spec.specs.Commands.{stops, wanted, wanted_of, wanted_ring, class_of}
use Rattle.command_spec.specs.Answers.{Outside, IfHolds, NoScript}
use Rattle.command_spec.specs.PlanAnswers.{ram_statuses, IsAmong}
use Rattle.command_spec.specs.declared.Stop.{Stop}
use Rattle.command_spec.specs.declared.Stop.TheVariants.{Memory, ImageFault, SinkFault}
use Rattle.image_file.specs.Loading.{FrontStop}
use Rattle.command_line.specs.Ended.{Ended, CanEnd, RamReadEnds}
use Rattle.command_line.proofs.Script.{Quiet, quiet_memory, put_nothing, ended_as}
use Rattle.commands.specs.Dumps.{ScansFrom, ring_stop}
use Rattle.commands.proofs.RecordEnds.{put_all_of, put_front_of}

-- a command on a dump: it reads no image of a size, and its statuses are among those of both
record IsOnDump (c : RamCommand) (plan : RamPlan) : Type 0 where
  none : reads_image (class_of c) ≡ false
  front : front_of (class_of c) plan ≡ dump_limit
  memory : IsAmong (ram_statuses c) 1
  image : IsAmong (ram_statuses c) 6

finding : (plan : RamPlan) → IsOnDump Salvage plan
finding plan = record { none = refl; front = refl; memory = refl; image = refl }

reading : (plan : RamPlan) (at : ℕ) (name : ZoneName) → IsOnDump (Rescue at name) plan
reading plan at name = record { none = refl; front = refl; memory = refl; image = refl }

reads : (plan : RamPlan) (a b : Outside) (e : End) → CanEnd plan e → NoScript a b → b.holds ≡ a.holds
    → IfHolds a (λ bytes. Ended (wanted plan bytes []) a b e) → RamReadEnds plan a b e
reads plan a b e can none same whole = record { can = can; whole = whole; script = none; image = same }

-- what is wanted of the dump's front
dump_wanted : (plan : RamPlan) (c : RamCommand) (bytes : List ℕ) → plan.command ≡ c → IsOnDump c plan
    → wanted plan bytes [] ≡ wanted_of plan.params plan.zones (take dump_limit bytes) [] c
dump_wanted plan c bytes is h =
    let e : wanted plan bytes [] ≡ wanted_of plan.params plan.zones (take (front_of (class_of c) plan) bytes) [] c =
    rw (is, h.none) refl in
    e ∙ ap (λ (n : ℕ). wanted_of plan.params plan.zones (take n bytes) [] c) h.front

-- a dump that was not read
unread : (plan : RamPlan) (c : RamCommand) (a b : Outside) (s : Stop) (f g : ℕ) → plan.command ≡ c → IsOnDump c plan
    → NoScript a b → Quiet a b → FrontStop s f g → RamReadEnds plan a b (Err s)
unread plan c a b Memory f g is on none q h = reads plan a b _ (rw is on.memory) none q.holds
    (record { told = λ bytes t. quiet_memory (wanted plan bytes []) a b q })
unread plan c a b ImageFault f g is on none q h = reads plan a b _ (rw is on.image) none q.holds
    (record { told = λ bytes t. inl (q.given, q.holds) })
unread plan c a b s f g is on none q h = absurd h

pub rings_unread : (plan : RamPlan) (a b : Outside) (s : Stop) (f g : ℕ) → plan.command ≡ Salvage → NoScript a b
    → Quiet a b → FrontStop s f g → RamReadEnds plan a b (Err s)
rings_unread plan a b s f g is = unread plan Salvage a b s f g is (finding plan)

pub ring_unread : (plan : RamPlan) (at : ℕ) (name : ZoneName) (a b : Outside) (s : Stop) (f g : ℕ)
    → plan.command ≡ Rescue at name → NoScript a b → Quiet a b → FrontStop s f g → RamReadEnds plan a b (Err s)
ring_unread plan at name a b s f g is = unread plan (Rescue at name) a b s f g is (reading plan at name)

-- ---- a dump that was read

module _ (plan : RamPlan) (a b : Outside) (scan : Scanned) (read : ScansFrom plan.zones a.holds scan) where
  done : (c : RamCommand) (e : End) → plan.command ≡ c → IsOnDump c plan
      → Ended (wanted_of plan.params plan.zones read.dump [] c) a b e
      → IfHolds a (λ bytes. Ended (wanted plan bytes []) a b e)
  done c e is on h = record {
    told = λ bytes t.
        let front : read.dump ≡ take dump_limit bytes = rw t at read.read in
        ended_as (wanted plan bytes []) (wanted_of plan.params plan.zones read.dump [] c) a b e
        (dump_wanted plan c bytes is on
        ∙ ap (λ (dump : List ℕ). wanted_of plan.params plan.zones dump [] c) (sym front)) h;
  }

  memory_ends : (c : RamCommand) → plan.command ≡ c → IsOnDump c plan → NoScript a b → Quiet a b
      → RamReadEnds plan a b (Err Memory)
  memory_ends c is on none q = reads plan a b _ (rw is on.memory) none q.holds (done c (Err Memory) is on
      (quiet_memory (wanted_of plan.params plan.zones read.dump [] c) a b q))

  -- listed
  module _ (is : plan.command ≡ Salvage) where
    pub rings_memory : NoScript a b → Quiet a b → RamReadEnds plan a b (Err Memory)
    rings_memory = memory_ends Salvage is (finding plan)

    module _ (found : List FoundRing) (text : Text) (all : found ≡ scan.rest) (e : text ≡ rings_text found)
        (same : b.holds ≡ a.holds) where
      rings_wanted : wanted_of plan.params plan.zones read.dump [] Salvage ≡ shows (text ∷ [])
      rings_wanted = ap (λ (t : Text). shows (t ∷ []))
          (sym (e ∙ ap rings_text (all ∙ ap (λ (s : Scanned). s.rest) read.scan_is)))

      pub rings_put : NoScript a b → Appends a.given b.given text → RamReadEnds plan a b (Ok tt)
      rings_put none put = reads plan a b _ (rw is refl) none same (done Salvage (Ok tt) is (finding plan)
          (put_all_of (wanted_of plan.params plan.zones read.dump [] Salvage) a b text rings_wanted same put))

      pub rings_front : NoScript a b → AppendsFront a.given b.given text → RamReadEnds plan a b (Err SinkFault)
      rings_front none put = reads plan a b _ (rw is refl) none same (done Salvage (Err SinkFault) is (finding plan)
          (put_front_of (wanted_of plan.params plan.zones read.dump [] Salvage) a b text rings_wanted same put))

  -- read
  module _ (at : ℕ) (name : ZoneName) (is : plan.command ≡ Rescue at name) where
    asked : read_at scan.image scan.zones at name ≡ read_at read.dump plan.zones at name
    asked = ap (λ (s : Scanned). read_at s.image s.zones at name) read.scan_is

    module _ (r : ZoneReading) (here : read_at scan.image scan.zones at name ≡ Ok r) (same : b.holds ≡ a.holds) where
      ring_wanted : wanted_of plan.params plan.zones read.dump [] (Rescue at name) ≡ shows (r.log ∷ [])
      ring_wanted = ap wanted_ring (sym asked ∙ here)

      pub ring_put : NoScript a b → Appends a.given b.given r.log → RamReadEnds plan a b (Ok tt)
      ring_put none put = reads plan a b _ (rw is refl) none same (done (Rescue at name) (Ok tt) is
          (reading plan at name)
          (put_all_of (wanted_of plan.params plan.zones read.dump [] (Rescue at name)) a b r.log
          ring_wanted same put))

      pub ring_front : NoScript a b → AppendsFront a.given b.given r.log → RamReadEnds plan a b (Err SinkFault)
      ring_front none put = reads plan a b _ (rw is refl) none same (done (Rescue at name) (Err SinkFault) is
          (reading plan at name)
          (put_front_of (wanted_of plan.params plan.zones read.dump [] (Rescue at name)) a b r.log ring_wanted same
          put))

    -- refused
    refused : (stop : Stop) → wanted_of plan.params plan.zones read.dump [] (Rescue at name) ≡ stops stop
        → Ended (stops stop) a b (Err stop) → IfHolds a (λ bytes. Ended (wanted plan bytes []) a b (Err stop))
    refused stop w h = done (Rescue at name) (Err stop) is (reading plan at name)
        (ended_as (wanted_of plan.params plan.zones read.dump [] (Rescue at name)) (stops stop) a b (Err stop) w h)

    pub ring_refused : (fault : RingFault) (s : Stop) → s ≡ ring_stop fault
        → IsFault (read_at scan.image scan.zones at name) fault → NoScript a b → Quiet a b
        → RamReadEnds plan a b (Err s)
    ring_refused NoZone s e h none q = rw e (reads plan a b _ (rw is refl) none q.holds
        (refused (ring_stop NoZone) (ap wanted_ring (sym asked ∙ h)) (refl, put_nothing a b q, q.holds)))
    ring_refused NoRing s e h none q = rw e (reads plan a b _ (rw is refl) none q.holds
        (refused (ring_stop NoRing) (ap wanted_ring (sym asked ∙ h)) (refl, put_nothing a b q, q.holds)))
    ring_refused RingMemory s e h none q = rw e (memory_ends (Rescue at name) is (reading plan at name) none q)
