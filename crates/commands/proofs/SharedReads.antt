-- What a reader finds after a script on the shared zone of an image that is done
use Rattle.std.proofs.Common.{◌≡◌, ℕ, ◌≤◌, Bool, true, false, cond, nat_lt, List, length, take, refl, ap, ◌∙◌, Option}
use Rattle.std.proofs.Common.{Some, None, Ok}
use Rattle.zone_spec.specs.declared.Zone.{Zone}
use Rattle.zone_spec.specs.Layout.{layout_of}
use Rattle.zone_spec.specs.Layouts.{IsLayout}
use Rattle.zone_spec.specs.Parts.{AreBytes}
use Rattle.machine_spec.specs.Stop.{stopped}
use Rattle.shared_spec.specs.Histories.{CanOpen, image_left}
use Rattle.grammar_spec.specs.Lines.{script_of}
use Rattle.grammar_spec.specs.declared.line.Line.{Line}
use Rattle.command_spec.specs.Commands.{SharedRun, RamPlan, wanted, wanted_shared, wanted_shared_lines, wanted_in_zone}
use Rattle.command_spec.specs.Commands.{wanted_ran, after_boot, mem_of, script_limit, stops}
use Rattle.script_spec.specs.SharedScripts.{SharedRan, shared_name, shared_ran, zone_to_share, lacks_plain_ftrace}
use Rattle.command_spec.specs.Answers.{Outside, WritesAll}
use Rattle.script_spec.specs.declared.Cause.{Cause}
use Rattle.command_spec.specs.declared.Stop.TheVariants.{TooLong}
use Rattle.outside.specs.Outside.{Writes}
use Rattle.command_line.proofs.Script.{nat_lt-false}
use Rattle.script_laws.proofs.SharedScripts.{full_log_read}
use Rattle.commands.specs.Headline.{SharedReads}
use Rattle.commands.proofs.Shareable.{can_open, zone_in_both}

-- a script that is done had no refused line, and its image is what is to be written
when_done : (long : Bool) (o : Option Cause) (r : SharedRan) (old new : Option (List ℕ))
    → (cond long (stops TooLong) (wanted_ran r o)).end ≡ Ok tt
    → WritesAll (cond long (stops TooLong) (wanted_ran r o)).writes old new
    → (o ≡ None) × Writes old new 0 (image_left r.history)
when_done true o r old new e w = absurd (cc)
when_done false None r old new e w = (refl, w)
when_done false (Some c) r old new e w = absurd (cc)

pub shared_reads : (plan : RamPlan) → plan.command ≡ SharedRun → (bytes script : List ℕ) (lines : List Line)
    → mem_of plan ≤ length bytes → script_of script ≡ Ok lines → layout_of plan.params ≡ Ok plan.zones
    → lacks_plain_ftrace plan.params ≡ false → IsLayout plan.zones (mem_of plan)
    → length (take (mem_of plan) bytes) ≡ mem_of plan → AreBytes (take (mem_of plan) bytes) → (a b : Outside)
    → (wanted plan bytes script).end ≡ Ok tt → WritesAll (wanted plan bytes script).writes a.holds b.holds
    → SharedReads plan.zones (take (mem_of plan) bytes) lines a b
shared_reads plan is bytes script lines long good laid plain lies size all a b end writes =
    let image : List ℕ = take (mem_of plan) bytes in
    let start : List ℕ = (stopped plan.zones (after_boot plan.zones image)).image in
    let can : CanOpen plan.zones shared_name start =
    can_open plan.params plan.zones (mem_of plan) image laid plain lies size all in
    let named : zone_to_share plan.zones ≡ Some can.zone = zone_in_both plan.zones plan.zones start refl can in
    let r : SharedRan = shared_ran can.zone start lines in
    let limit : Bool = nat_lt script_limit (length script) in
    let asked : wanted plan bytes script ≡ wanted_shared plan.zones image script = rw (is, nat_lt-false long) refl in
    let w : wanted plan bytes script ≡ cond limit (stops TooLong) (wanted_ran r r.refused) =
    asked ∙ ap (λ s. cond limit (stops TooLong) (wanted_shared_lines plan.zones image s)) good
    ∙ ap (λ (o : Option Zone). cond limit (stops TooLong) (wanted_in_zone o start lines)) named in
    let done = when_done limit r.refused r a.holds b.holds (rw w at end) (rw w at writes) in
    record {
      zone = can.zone;
      named = named;
      left = image_left r.history;
      written = done.1;
      reads = full_log_read can.zone start lines can.can done.0;
    }
