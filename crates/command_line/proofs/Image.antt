-- How the stages of a command that reads the image, and no script, end it
use Rattle.std.proofs.Common.{◌≡◌, ℕ, ◌<◌, ◌≤◌, List, [], length, take, Option, Err, IfSome, refl, sym, ap, ◌∙◌, inl}
use Rattle.std.proofs.Common.{Bool, true, true≢false}
use Rattle.command_spec.specs.Ends.{End}
use Rattle.command_spec.specs.Commands.{RamCommand, RamPlan, wanted, wanted_of, reads_image, front_of, mem_of, stops}
use Rattle.command_spec.specs.Commands.{Class, RunsScript, ReadsImage, ReadsDump, WritesImage, class_of}
use Rattle.command_spec.specs.Answers.{Outside, IfHolds}
use Rattle.command_spec.specs.PlanAnswers.{IsAmong, class_statuses, names_one}
use Rattle.command_spec.specs.declared.Stop.{Stop}
use Rattle.command_spec.specs.declared.Stop.TheVariants.{Short}
use Rattle.image_file.specs.Loading.{LoadStop}
use Rattle.command_line.specs.Ended.{Ended, CanEnd}
use Rattle.command_line.proofs.Script.{Quiet, quiet_memory, put_nothing, ended_as, nat_lt-true, nat_lt-false}
use Rattle.command_line.proofs.StageStops.{load_stops}

short_wanted : (plan : RamPlan) (c : RamCommand) (bytes : List ℕ) → plan.command ≡ c → reads_image (class_of c) ≡ true
    → length bytes < mem_of plan → wanted plan bytes [] ≡ stops (Short (length bytes) (mem_of plan))
short_wanted plan c bytes is reads h = rw (is, reads, nat_lt-true h) refl

-- a command that reads an image takes that and no more
front_is : (plan : RamPlan) (class : Class) → reads_image class ≡ true → front_of class plan ≡ mem_of plan
front_is plan ReadsDump reads = absurd (true≢false (sym reads))
front_is plan class reads = refl

image_wanted : (plan : RamPlan) (c : RamCommand) (bytes : List ℕ) → plan.command ≡ c → reads_image (class_of c) ≡ true
    → mem_of plan ≤ length bytes → wanted plan bytes [] ≡ wanted_of plan.params plan.zones (take (mem_of plan) bytes)
    [] c
image_wanted plan c bytes is reads h =
    let e : wanted plan bytes [] ≡ wanted_of plan.params plan.zones (take (front_of (class_of c) plan) bytes) [] c =
    rw (is, reads, nat_lt-false h) refl in
    e ∙ ap (λ (n : ℕ). wanted_of plan.params plan.zones (take n bytes) [] c) (front_is plan (class_of c) reads)

stop_short : (plan : RamPlan) (c : RamCommand) (a b : Outside) (has needed : ℕ) → plan.command ≡ c
    → reads_image (class_of c) ≡ true
    → Quiet a b → (needed ≡ mem_of plan) × (has < mem_of plan) × IfSome a.holds (λ bs. has ≡ length bs)
    → IfHolds a (λ bytes. Ended (wanted plan bytes []) a b (Err (Short has needed)))
stop_short plan c a b has needed is reads q h = record {
  told = λ bytes t.
      let size : has ≡ length bytes = rw t at h.2 in
      let few : length bytes < mem_of plan = rw size at h.1 in
      ended_as (wanted plan bytes []) (stops (Short (length bytes) (mem_of plan))) a b (Err (Short has needed))
      (short_wanted plan c bytes is reads few) (rw (size, h.0) refl, put_nothing a b q, q.holds);
}

-- the image was not read
pub image_stopped : (plan : RamPlan) (c : RamCommand) (a b : Outside) (s : Stop) (f g : ℕ) → plan.command ≡ c
    → reads_image (class_of c) ≡ true → Quiet a b → LoadStop s (mem_of plan) a.holds f g
    → IfHolds a (λ bytes. Ended (wanted plan bytes []) a b (Err s))
image_stopped plan c a b s f g is reads q h = load_stops
    (λ t. IfHolds a (λ bytes. Ended (wanted plan bytes []) a b (Err t))) (mem_of plan) a.holds f g
    (record { told = λ bytes t. quiet_memory (wanted plan bytes []) a b q })
    (λ rose. record { told = λ bytes t. inl (q.given, q.holds) })
    (λ has needed size. stop_short plan c a b has needed is reads q size) s h

-- a command that reads the image can want memory, find it too short, and fail to read it
can_read : (class : Class) (refused : Bool) → reads_image class ≡ true
    → IsAmong (class_statuses class refused) 1 × IsAmong (class_statuses class refused) 4
    × IsAmong (class_statuses class refused) 6
can_read RunsScript refused reads = (refl, refl, refl)
can_read ReadsImage refused reads = (refl, refl, refl)
can_read WritesImage refused reads = (refl, refl, refl)
can_read class refused reads = absurd (true≢false (sym reads))

pub load_can : (plan : RamPlan) (c : RamCommand) (s : Stop) (mem : ℕ) (holds : Option (List ℕ)) (f g : ℕ)
    → plan.command ≡ c → reads_image (class_of c) ≡ true → LoadStop s mem holds f g → CanEnd plan (Err s)
load_can plan c s mem holds f g is reads h = load_stops (λ t. CanEnd plan (Err t)) mem holds f g
    (rw is ((can_read (class_of c) (names_one c) reads).0))
    (λ rose. rw is ((can_read (class_of c) (names_one c) reads).2))
    (λ has needed size. rw is ((can_read (class_of c) (names_one c) reads).1)) s h

-- the image was read, and what is wanted of it was done
pub image_done : (plan : RamPlan) (c : RamCommand) (a b : Outside) (image : List ℕ) (e : End) → plan.command ≡ c
    → reads_image (class_of c) ≡ true
    → IfSome a.holds (λ bs. (mem_of plan ≤ length bs) × (image ≡ take (mem_of plan) bs))
    → Ended (wanted_of plan.params plan.zones image [] c) a b e
    → IfHolds a (λ bytes. Ended (wanted plan bytes []) a b e)
image_done plan c a b image e is reads loaded h = record {
  told = λ bytes t.
      let l : (mem_of plan ≤ length bytes) × (image ≡ take (mem_of plan) bytes) = rw t at loaded in
      ended_as (wanted plan bytes []) (wanted_of plan.params plan.zones image [] c) a b e
      (image_wanted plan c bytes is reads l.0 ∙ rw (← l.1) refl) h;
}
